use mathlib.Core.Path.{refl}
use Rattle.session.specs.Open.{zeros}
use Rattle.run.proofs.lag.Window.first.Goals as goal

pub returns : goal.returns
unfolding zeros
returns c = record { words = refl; base = refl; count = refl }
