-- `first` meets its contract: the fixed bytes are the header's. Assumes nothing.
use native.Mathlib.Omega.{arith}
use Rattle.lines.specs.Lines.{header}
use Rattle.lines.proofs.Building.{adds_from}
use Rattle.lines.proofs.first.Goals as goal

pub returns : goal.returns
unfolding header
returns c = adds_from c.new-line.ensures c.push_all.ensures (omega arith)
