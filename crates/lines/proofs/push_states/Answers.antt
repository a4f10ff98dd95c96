use Rattle.lines.proofs.Building.{adds_then}
use Rattle.lines.proofs.push_states.Goals as goal

pub returns : goal.returns
returns c = adds_then c.push.ensures c.push_hexadecimal.ensures
