use mathlib.Core.Path.{◌≡◌}
use lib.ListN.{length}
use Rattle.run.specs.Column.{Ready}
use Rattle.run.proofs.column.Columns.of.Given as goal

abbrev pub invariant-loop-k : goal.invariant-loop-k
invariant-loop-k l = (length l.room ≡ 32) × Ready l.rows l.width l.k l.room
