use Rattle.std.proofs.Common.{◌≡◌, ◌%◌}
use Rattle.casework.specs.Digest.{weighed}
use Rattle.casework.proofs.digest.Given as goal

abbrev pub invariant-loop-i : goal.invariant-loop-i
invariant-loop-i l = l.sum ≡ weighed l.memory l.i % 65521
