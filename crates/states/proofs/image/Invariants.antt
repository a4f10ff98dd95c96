use Rattle.states.specs.Rows.{Leads}
use Rattle.states.proofs.Through.{Going}
use Rattle.states.proofs.image.Given as goal

abbrev pub invariant-loop-s : goal.invariant-loop-s
invariant-loop-s l = Going (Leads l.rows l.width l.column) l.from l.left l.out

abbrev pub decreases-loop-s : goal.decreases-loop-s
decreases-loop-s l = l.left
