-- What is shown of the function, each under one sentence. proofs/Laws.antt proves them all. Assumes nothing.
use Rattle.std.specs.Prelude.{◌≡◌, Bool, false, List, ◌↔◌, ℕ, ◌<◌, length}
use Rattle.standarddoors.specs.Results.{rows_size, Giving}

-- It answers false exactly when the memory is shorter than the rows are;
abbrev pub GivingFalse : Type 0
GivingFalse = (d : List ℕ) (a : Bool) (d' : List ℕ) → Giving d a d' → a ≡ false ↔ (length d < rows_size)

-- and then nothing is written.
abbrev pub GivingFalseKeeps : Type 0
GivingFalseKeeps = (d d' : List ℕ) → Giving d false d' → d' ≡ d

-- Of one input there is one answer, and one content of the memory that was lent.
abbrev pub OneGiving : Type 0
OneGiving = (d : List ℕ) (a₁ a₂ : Bool) (d₁ d₂ : List ℕ) → Giving d a₁ d₁ → Giving d a₂ d₂ → (a₁ ≡ a₂) × (d₁ ≡ d₂)
