-- What is shown of what is told, each under one sentence. proofs/Laws.antt proves them all. Assumes nothing.
use Rattle.std.specs.Prelude.{◌≡◌, Option, None, Some, Ok, List, [], ◌∷◌, ◌++◌, ◌⊎◌, ℕ, ◌+◌, ◌≤◌, ◌<◌, length}
use Rattle.std.specs.declared.ops.ControlFlow.{ControlFlow}
use Rattle.std.specs.declared.ops.ControlFlow.TheVariants.{Continue, Break}
use Rattle.intake.specs.Inputs.{most_count, sum_of, counted, ended, input_of, Keeps}
use Rattle.intake.specs.declared.Input.{Input}

-- What came of one read decides how the input ends, with the reads that follow.
abbrev pub resumed : ControlFlow (Option ℕ) ℕ → List (Option ℕ) → Option ℕ
resumed (Break e) rs = e
resumed (Continue n) rs = ended n rs

abbrev pub ReadByRead : Type 0
ReadByRead = (n : ℕ) (r : Option ℕ) (rs : List (Option ℕ)) → ended n (r ∷ rs) ≡ resumed (counted n r) rs

-- Reads that got bytes, and all the bytes that they got.
abbrev pub Getting : List ℕ → Type 0
Getting [] = Unit {0}
Getting (n ∷ ns) = (0 < n) × Getting ns

abbrev pub reads_of : List ℕ → List (Option ℕ)
reads_of [] = []
reads_of (n ∷ ns) = Some n ∷ reads_of ns

abbrev pub total : List ℕ → ℕ
total [] = 0
total (n ∷ ns) = n + total ns

-- An input that is read to its end is told with all its bytes, however they came; and one of which a read fails, as one that is not whole.
abbrev pub AllCounted : Type 0
AllCounted =
    (n : ℕ) (ns : List ℕ) (rs : List (Option ℕ)) → n ≤ most_count → Getting ns
    → ended n (reads_of ns ++ (Some 0 ∷ rs)) ≡ Some (sum_of n (total ns))

abbrev pub FailureTold : Type 0
FailureTold = (n : ℕ) (ns : List ℕ) (rs : List (Option ℕ)) → Getting ns → ended n (reads_of ns ++ (None ∷ rs)) ≡ None

-- An input that is longer than the buffer is whole, and is told with its true length: what was kept, and what came later.
abbrev pub TrueLength : Type 0
TrueLength =
    (room : ℕ) (ns : List ℕ) → room ≤ most_count → Getting ns
    → input_of room room (ended 0 (reads_of ns ++ (Some 0 ∷ []))) ≡ record { kept = room; length = Ok (sum_of room (total ns)) }

-- A whole input is either all kept, or it fills the buffer.
abbrev pub WholeKept : Type 0
WholeKept =
    (buffer : List ℕ) (r : Input) (n : ℕ) → length buffer ≤ most_count → Keeps buffer r → r.length ≡ Ok n
    → (n ≡ r.kept) ⊎ ((r.kept ≡ length buffer) × (r.kept ≤ n))

-- What came through the descriptor settles what is told: how many bytes were kept, and how the input ended.
abbrev pub OneTold : Type 0
OneTold =
    (buffer : List ℕ) (r₁ r₂ : Input) (a : Keeps buffer r₁) (b : Keeps buffer r₂) → r₁.kept ≡ r₂.kept → a.how ≡ b.how → r₁ ≡ r₂
