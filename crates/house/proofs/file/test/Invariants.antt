use Rattle.std.proofs.Common.{◌≡◌}
use Rattle.std.specs.Prelude.{Ok}
use Rattle.house.specs.File.{block_before}
use Rattle.house.specs.Reading.{blocks_test}
use Rattle.house.proofs.Files.{Walked}
use Rattle.house.proofs.file.test.Given as goal

abbrev pub invariant-loop-k : goal.invariant-loop-k
invariant-loop-k l =
    Walked l.file l.k-iterator.iter.rest.now l.k-iterator.iter.size l.k-iterator.count
    × (blocks_test l.file l.k-iterator.count ≡ Ok tt)
    × (l.before ≡ block_before l.file l.k-iterator.count)
