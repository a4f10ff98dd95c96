-- `states::below` meets its contract. Assumes nothing.
use Rattle.std.proofs.Common.{arith}
use Rattle.states.proofs.Member.{in_lt}
use Rattle.states.proofs.Ends.{below_by}
use Rattle.states.proofs.below.Goals as goal

pub returns-then-n-ge-STATES : goal.returns-then-n-ge-STATES
returns-then-n-ge-STATES c = record { yes = λ e s i. omega (arith, in_lt 64 s c.args.x (omega arith) i); no = λ e h. absurd (grind arith) }

pub returns-else-n-ge-STATES : goal.returns-else-n-ge-STATES
returns-else-n-ge-STATES c = below_by c.args.x c.args.n
