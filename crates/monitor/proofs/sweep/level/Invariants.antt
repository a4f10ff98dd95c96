use Rattle.states.proofs.Words.{Written}
use lib.ListN.{get_or}
use Prim.Native.Nat.{◌+◌, ◌*◌}
use Rattle.monitor.proofs.sweep.level.Given as goal

abbrev pub invariant-loop-r : goal.invariant-loop-r
invariant-loop-r l = Written 0 l.r (λ k. get_or l.set (8 * l.w + k) 0) l.initial.x l.x
