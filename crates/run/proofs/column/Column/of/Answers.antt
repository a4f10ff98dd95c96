use mathlib.Core.Path.{sym}
use Rattle.states.specs.Rows.{byte_at}
use Rattle.run.proofs.Columns.{sorted_none}
use Rattle.run.proofs.column.Column.of.Goals as goal

pub loop-s-init : goal.loop-s-init
loop-s-init c = sorted_none _

pub loop-s-preserved : goal.loop-s-preserved
loop-s-preserved c = c.sorted-x.ensures (byte_at c.args.rows.now c.args.width c.args.column) (sym c.byte.ensures) c.loop-s.invariant
