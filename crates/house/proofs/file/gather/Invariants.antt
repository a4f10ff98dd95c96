use Rattle.std.proofs.Common.{◌≡◌, ℕ, length}
use Rattle.lent.specs.Lent.{front}
use Rattle.block.specs.Block.{kind_number}
use Rattle.house.specs.File.{joined}
use Rattle.house.proofs.Files.{Walked}
use Rattle.house.proofs.file.gather.Given as goal

abbrev pub invariant-loop-b : goal.invariant-loop-b
invariant-loop-b l =
    (k : ℕ)
    × Walked l.file l.b-iterator.rest.now l.b-iterator.size k
    × (l.at ≡ length (joined (kind_number l.q) l.file k))
    × (l.dst ≡ front l.initial.dst (joined (kind_number l.q) l.file k))
    × (length l.dst ≡ length l.initial.dst)
