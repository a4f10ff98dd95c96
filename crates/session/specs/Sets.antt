-- How 264 words stand for a set of configurations. Assumes nothing.
use Rattle.std.specs.Prelude.{◌≡◌, Bool, true, false, List, ℕ, ◌+◌, ◌*◌, ◌≤◌, ◌<◌, get_or}
use Rattle.model.specs.Limits.{most_waiting, most_losses}
use Rattle.model.specs.Model.{Config}
use Rattle.states.specs.In.{In}

-- State s is in the word of waiting w and run r, which stands at 8 w + r.
abbrev pub InCell : List ℕ → ℕ → ℕ → ℕ → Type 0
InCell set w r s = In s (get_or set (8 * w + r) 0)

-- The set is kept as 264 words of 64 bits, one for each of 33 waiting counts and 8 runs, a bit a state.
pub record Holds (set : List ℕ) (x : Config ℕ) : Type 0 where
  pub waiting : x.waiting ≤ most_waiting
  pub run : x.run < most_losses
  pub member : InCell set x.waiting x.run x.state

-- Whether any configuration is held: with a witness, or with none at all.
pub record Finds (set : List ℕ) (found : Bool) : Type 0 where
  pub yes : found ≡ true → (x : Config ℕ) × Holds set x
  pub no : found ≡ false → (x : Config ℕ) → Holds set x → ⊥
