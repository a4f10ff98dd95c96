-- `states::least` meets its contract. Assumes nothing.
use Rattle.std.proofs.Common.{arith}
use Rattle.states.proofs.Ends.{least_of}
use Rattle.states.proofs.least.Goals as goal

pub returns : goal.returns
returns c = least_of c.args.x (omega arith) c.if-x-eq0.false
