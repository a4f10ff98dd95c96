use mathlib.Core.Path.{◌∙◌}
use lib.ListN.{length-set}
use Rattle.run.proofs.Columns.{ready_more}
use native.Mathlib.Omega.{arith}
use Rattle.run.proofs.column.Columns.of.Goals as goal

pub loop-k-preserved : goal.loop-k-preserved
loop-k-preserved c =
    let l = c.loop-k in (
      length-set l.room _ _ ∙ l.invariant.0,
      ready_more _ _ _ _ _ _ c.from.ensures (omega (arith, l.invariant.0, c.requires)) l.invariant.1 c.of.ensures,
    )
