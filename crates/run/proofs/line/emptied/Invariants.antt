use Prim.Native.Nat.{◌≤◌}
use Rattle.run.specs.Trace.{Emptied}
use Rattle.run.proofs.line.emptied.Given as goal

abbrev pub invariant-loop-i : goal.invariant-loop-i
invariant-loop-i l = (l.k ≤ l.i) × Emptied l.k l.i l.initial.out l.out
