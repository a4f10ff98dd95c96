use Rattle.states.specs.In.{Has}
use Rattle.session.specs.Sets.{InCell}
use mathlib.Core.Logic.{◌↔◌, ◌⊎◌}
use lib.ListN.{length}
use mathlib.Core.Path.{◌≡◌}
use Prim.Native.Nat.{ℕ, ◌<◌}
use Rattle.session.proofs.Session.by_run.Given as goal

abbrev pub invariant-loop-waiting : goal.invariant-loop-waiting
invariant-loop-waiting l = (length l.runs ≡ 8) × ((r : ℕ) → r < 8 → (q : ℕ) → Has l.runs r q ↔ ((w : ℕ) × (w < l.waiting) × InCell l.self.set w r q))

abbrev pub invariant-loop-run : goal.invariant-loop-run
invariant-loop-run l = (length l.runs ≡ 8) × ((r : ℕ) → r < 8 → (q : ℕ) → Has l.runs r q ↔ (Has l.initial.runs r q ⊎ ((r < l.run) × InCell l.self.set l.waiting r q)))
