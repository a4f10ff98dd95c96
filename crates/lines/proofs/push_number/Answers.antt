use Rattle.lines.proofs.Building.{adds_then}
use Rattle.lines.proofs.push_number.Goals as goal

pub returns : goal.returns
returns c = adds_then c.push.ensures c.push_decimal.ensures
