-- What is shown of the functions, each under one sentence. proofs/Laws.antt proves them all. Assumes nothing.
use Rattle.std.specs.Prelude.{◌≡◌, Bool, false, List, ◌↔◌, ℕ, ◌<◌, length}
use Rattle.house.specs.declared.answer.Source.{Source}
use Rattle.writer.specs.Answer.{Writing}
use Rattle.writerdoors.specs.Results.{write_size, Making, WriteAnswers, RebindAnswers, RetraceAnswers, MendAnswers}

-- Each function answers false exactly when the memory for its results is too short,
abbrev pub MakingFalse : Type 1
MakingFalse =
    (P : Writing → List ℕ → Type 0) (out told : List ℕ) (a : Bool) (out' told' : List ℕ) → Making P out told a out' told'
    → a ≡ false ↔ (length told < write_size)

-- and nothing is written.
abbrev pub MakingFalseKeeps : Type 1
MakingFalseKeeps =
    (P : Writing → List ℕ → Type 0) (out told out' told' : List ℕ) → Making P out told false out' told' → (out' ≡ out) × (told' ≡ told)

-- Of one input there is one answer, and one content of each memory that was lent.
abbrev pub OneWriteAnswer : Type 0
OneWriteAnswer =
    (source : Source) (rows : List ℕ) (states inputs outputs waiting losses : ℕ) (trace out told : List ℕ) (a₁ a₂ : Bool)
    (out₁ told₁ out₂ told₂ : List ℕ) → WriteAnswers source rows states inputs outputs waiting losses trace out told a₁ out₁ told₁
    → WriteAnswers source rows states inputs outputs waiting losses trace out told a₂ out₂ told₂
    → (a₁ ≡ a₂) × (out₁ ≡ out₂) × (told₁ ≡ told₂)

abbrev pub OneRebindAnswer : Type 0
OneRebindAnswer =
    (file : List ℕ) (waiting losses : ℕ) (out told : List ℕ) (a₁ a₂ : Bool) (out₁ told₁ out₂ told₂ : List ℕ)
    → RebindAnswers file waiting losses out told a₁ out₁ told₁ → RebindAnswers file waiting losses out told a₂ out₂ told₂
    → (a₁ ≡ a₂) × (out₁ ≡ out₂) × (told₁ ≡ told₂)

abbrev pub OneRetraceAnswer : Type 0
OneRetraceAnswer =
    (file trace out told : List ℕ) (a₁ a₂ : Bool) (out₁ told₁ out₂ told₂ : List ℕ)
    → RetraceAnswers file trace out told a₁ out₁ told₁ → RetraceAnswers file trace out told a₂ out₂ told₂
    → (a₁ ≡ a₂) × (out₁ ≡ out₂) × (told₁ ≡ told₂)

abbrev pub OneMendAnswer : Type 0
OneMendAnswer =
    (file out told : List ℕ) (a₁ a₂ : Bool) (out₁ told₁ out₂ told₂ : List ℕ) → MendAnswers file out told a₁ out₁ told₁
    → MendAnswers file out told a₂ out₂ told₂ → (a₁ ≡ a₂) × (out₁ ≡ out₂) × (told₁ ≡ told₂)
