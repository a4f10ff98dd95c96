-- What is shown of a flag in one word, each under one sentence. proofs/Laws.antt proves them all. Assumes nothing.
use Rattle.std.specs.Prelude.{◌≡◌, ℕ, ◌^◌, ◌<◌, Option, Some, None}
use Rattle.model.specs.Limits.{most_events}
use Rattle.figures.specs.Figures.{flag_word, flag_in}

-- What goes in comes out, both ways.
abbrev pub FlagBack : Type 0
FlagBack = (f : Option ℕ) → flag_in (flag_word f) ≡ f

abbrev pub FlagKept : Type 0
FlagKept = (n : ℕ) → flag_word (flag_in n) ≡ n

-- No flag fits one word, and so does a flag at the place of an event.
abbrev pub NoneFits : Type 0
NoneFits = flag_word None < 2 ^ 64

abbrev pub PlaceFits : Type 0
PlaceFits = (place : ℕ) → place < most_events → flag_word (Some place) < 2 ^ 64
