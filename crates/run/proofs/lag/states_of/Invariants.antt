use Rattle.states.specs.In.{In, AnyOf}
use mathlib.Core.Logic.{◌↔◌}
use Prim.Native.Nat.{ℕ}
use Rattle.run.proofs.lag.states_of.Given as goal

abbrev pub invariant-loop-word : goal.invariant-loop-word
invariant-loop-word l = (s : ℕ) → In s l.all ↔ AnyOf l.word-index l.words s
