-- What is shown of the functions, each under one sentence. proofs/Laws.antt proves them all. Assumes nothing.
use Rattle.std.specs.Prelude.{◌≡◌, Bool, true, false, List, ◌↔◌, ℕ, ◌<◌, length, get_or}
use Rattle.capturedoors.specs.Results.{import_size, hand_size, Importing, Handing}

-- The word of the second place is 0: what is refused of a capture has one place.
abbrev pub ImportingTellsOnePlace : Type 0
ImportingTellsOnePlace =
    (capture events told events' told' : List ℕ) → Importing capture events told true events' told' → get_or told' 2 0 ≡ 0

abbrev pub HandingTellsOnePlace : Type 0
HandingTellsOnePlace = (capture : List ℕ) (place : ℕ) (told told' : List ℕ) → Handing capture place told true told' → get_or told' 2 0 ≡ 0

-- A function answers false exactly when the memory for its results is too short,
abbrev pub ImportingFalse : Type 0
ImportingFalse =
    (capture events told : List ℕ) (a : Bool) (events' told' : List ℕ) → Importing capture events told a events' told'
    → a ≡ false ↔ (length told < import_size)

abbrev pub HandingFalse : Type 0
HandingFalse =
    (capture : List ℕ) (place : ℕ) (told : List ℕ) (a : Bool) (told' : List ℕ) → Handing capture place told a told'
    → a ≡ false ↔ (length told < hand_size)

-- and nothing is written.
abbrev pub ImportingFalseKeeps : Type 0
ImportingFalseKeeps =
    (capture events told events' told' : List ℕ) → Importing capture events told false events' told' → (events' ≡ events) × (told' ≡ told)

abbrev pub HandingFalseKeeps : Type 0
HandingFalseKeeps = (capture : List ℕ) (place : ℕ) (told told' : List ℕ) → Handing capture place told false told' → told' ≡ told

-- Of one input there is one answer, and one content of each memory that was lent.
abbrev pub OneImporting : Type 0
OneImporting =
    (capture events told : List ℕ) (a₁ a₂ : Bool) (events₁ told₁ events₂ told₂ : List ℕ) → Importing capture events told a₁ events₁ told₁
    → Importing capture events told a₂ events₂ told₂ → (a₁ ≡ a₂) × (events₁ ≡ events₂) × (told₁ ≡ told₂)

abbrev pub OneHanding : Type 0
OneHanding =
    (capture : List ℕ) (place : ℕ) (told : List ℕ) (a₁ a₂ : Bool) (told₁ told₂ : List ℕ) → Handing capture place told a₁ told₁
    → Handing capture place told a₂ told₂ → (a₁ ≡ a₂) × (told₁ ≡ told₂)
