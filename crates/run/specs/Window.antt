-- The window of a run as a whole. Assumes nothing.
use Rattle.std.specs.Prelude.{◌≡◌, ℕ, ◌+◌, ◌<◌, get_or, set}
use Rattle.session.specs.Open.{zeros}
use Rattle.run.specs.declared.lag.Window.{Window}

-- Before any event it holds state 0 alone, at lag 0, and no input.
pub record First (w : Window) : Type 0 where
  pub words : w.words ≡ set (zeros 104) 64 1
  pub base : w.base ≡ 64
  pub count : w.count ≡ 0

-- The line, and where it stands, are as they were.
pub record SameLine (before after : Window) : Type 0 where
  pub line : after.line ≡ before.line
  pub base : after.base ≡ before.base
  pub count : after.count ≡ before.count

-- The inputs of the line are inputs of a table that has so many.
abbrev pub InTable : ℕ → Window → Type 0
InTable inputs w = (k : ℕ) → k < w.count → get_or w.line (w.base + k) 0 < inputs
