use Rattle.std.proofs.Common.{ℕ, ◌<◌, get_or}
use Rattle.states.specs.In.{row_words, Has}
use Rattle.states.specs.Rows.{Leads}
use Rattle.states.proofs.Through.{Going}
use Rattle.states.proofs.sent_from.Given as goal

abbrev pub invariant-loop-s : goal.invariant-loop-s
invariant-loop-s l = (r : ℕ) → r < row_words → Going (λ s t. Has l.row r s × Leads l.rows l.width l.column s t) l.from l.left (get_or l.out r 0)

abbrev pub decreases-loop-s : goal.decreases-loop-s
decreases-loop-s l = l.left
