use Rattle.monitor.proofs.Words.{Joining}
use Rattle.monitor.proofs.sweep.joined.Given as goal

abbrev pub invariant-loop-r : goal.invariant-loop-r
invariant-loop-r l = Joining l.fn.row l.above l.taken l.c l.r l.x
