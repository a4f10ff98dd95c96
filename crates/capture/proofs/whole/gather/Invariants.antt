use mathlib.Core.Path.{◌≡◌}
use Rattle.capture.specs.Capture.{octets}
use Rattle.lent.specs.Lent.{front}
use Rattle.capture.proofs.whole.gather.Given as goal

abbrev pub invariant-loop-k : goal.invariant-loop-k
invariant-loop-k l = l.event-items ≡ front l.initial.event-items (octets l.capture l.k)
