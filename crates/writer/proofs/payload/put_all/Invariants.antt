use mathlib.Core.Path.{◌≡◌}
use mathlib.Core.List.{◌++◌}
use Prim.Native.Nat.{◌+◌, ◌*◌, ◌<◌}
use lib.ListN.{length, drop}
use Rattle.block.specs.Block.{kind_number}
use Rattle.block.specs.Limits.{block_size, room}
use Rattle.writer.specs.Layout.{run_of}
use Rattle.writer.proofs.payload.put_all.Given as goal

-- The blocks passed stand at the start, and the payload behind theirs is still to come.
abbrev pub invariant-loop-k : goal.invariant-loop-k
invariant-loop-k l =
    record {
      made : l.out ≡ run_of (kind_number l.kind) l.first l.payload l.k-iterator.count ++ drop (block_size * l.k-iterator.count) l.initial.out;
      left : l.k-iterator.iter.rest.now ≡ drop (room * l.k-iterator.count) l.payload;
      pieces : l.k-iterator.iter.size ≡ room;
      some_more : room * l.k-iterator.count < length l.payload + room;
    }
