use Rattle.states.proofs.Words.{Written}
use Rattle.std.proofs.Common.{◌*◌, get_or}
use Rattle.monitor.proofs.sweep.store.Given as goal

abbrev pub invariant-loop-r : goal.invariant-loop-r
invariant-loop-r l = Written (8 * l.w) l.r (λ k. get_or l.fn.x k 0) l.initial.set l.set
