use Rattle.run.specs.Lag.{Within}
use Rattle.states.specs.In.{In}
use mathlib.Core.Logic.{◌↔◌}
use Prim.Native.Nat.{ℕ, min}
use Rattle.run.proofs.lag.Window.within.Given as goal

abbrev pub invariant-loop-lost : goal.invariant-loop-lost
invariant-loop-lost l = (s : ℕ) → In s l.all ↔ Within l.self.words l.at (min l.lost l.c) s
