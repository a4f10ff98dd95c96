use Rattle.states.specs.In.{In}
use Rattle.states.specs.Rows.{Image}
use mathlib.Core.Logic.{◌↔◌}
use mathlib.Core.Path.{◌≡◌}
use Prim.Native.Nat.{ℕ, ◌<◌, ◌≤◌}
use lib.ListN.{get_or}
use Rattle.run.proofs.lag.follow.Given as goal

abbrev pub invariant-loop-word : goal.invariant-loop-word
invariant-loop-word l =
    ((j t : ℕ) → j < l.word-index → In t (get_or l.words j 0) ↔ Image l.columns.rows.now l.columns.width l.column (get_or l.initial.words j 0) t)
    × ((j : ℕ) → l.word-index ≤ j → get_or l.words j 0 ≡ get_or l.initial.words j 0)
