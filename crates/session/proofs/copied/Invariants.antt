use Rattle.std.proofs.Common.{◌≡◌, ◌++◌, take, drop}
use Rattle.session.specs.Open.{zeros}
use Rattle.session.proofs.copied.Given as goal

abbrev pub invariant-loop-i : goal.invariant-loop-i
invariant-loop-i l = l.copied ≡ take l.i l.rows ++ drop l.i (zeros 2048)
