-- `states::most` meets its contract. Assumes nothing.
use Rattle.states.proofs.Ends.{most_of}
use Rattle.states.proofs.most.Goals as goal

pub returns : goal.returns
returns c = most_of c.args.x c.ilog2.result c.ilog2.ensures.power_le c.ilog2.ensures.next_power_gt
