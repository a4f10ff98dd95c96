-- What the functions of this crate answer and leave in the memory lent to them, for every input. The answer is false exactly when the memory
-- for the results is too short, and then nothing is written. What is longer keeps the rest. Assumes nothing.
use Rattle.std.specs.Prelude.{◌≡◌, Bool, true, false, cond, List, [], ◌∷◌, ℕ, eqb, leb, length}
use Rattle.lent.specs.Lent.{front}
use Rattle.house.specs.Reading.{given}
use Rattle.house.specs.declared.answer.Source.{Source}
use Rattle.house.specs.declared.answer.Source.TheVariants.{Rows, Standard}
use Rattle.writer.specs.Writing.{Writes}
use Rattle.writer.specs.Refusals.{told_of, length_of}
use Rattle.writer.specs.Answer.{Writing}
use Rattle.remake.specs.Remaking.{Rebinds, Retraces}
use Rattle.remake.specs.Mending.{Mends}

-- The source is 0 for the rows that are given, anything else for the standard box.
abbrev pub source_meant : ℕ → Source
source_meant n = cond (eqb n 0) Rows Standard

-- The results: the number, both places, and how many bytes the file has.
abbrev pub write_size : ℕ
write_size = 4

abbrev pub write_results : Writing → List ℕ
write_results w = (told_of w).number ∷ (told_of w).place ∷ (told_of w).second ∷ length_of w ∷ []

-- The results are at the start of their memory. Which answer it is, and what is in the buffer then, P says: it is the writer's part.
pub data Making (P : Writing → List ℕ → Type 0) (out told : List ℕ) : Bool → List ℕ → List ℕ → Type 0 where
  short : leb write_size (length told) ≡ false → Making P out told false out told
  writes : {w : Writing} {out' : List ℕ} → leb write_size (length told) ≡ true → P w out'
      → Making P out told true out' (front told (write_results w))

-- A file is written,
abbrev pub WriteAnswers : Source → List ℕ → (states inputs outputs waiting losses : ℕ) → (trace out told : List ℕ) → Bool → List ℕ → List ℕ → Type 0
WriteAnswers source rows states inputs outputs waiting losses trace out told a out' told' =
    Making (λ w o. Writes (given source states inputs outputs waiting losses rows trace) rows trace out w o) out told a out' told'

-- made with other bounds,
abbrev pub RebindAnswers : List ℕ → (waiting losses : ℕ) → (out told : List ℕ) → Bool → List ℕ → List ℕ → Type 0
RebindAnswers file waiting losses out told a out' told' = Making (λ w o. Rebinds file waiting losses out w o) out told a out' told'

-- made with another trace,
abbrev pub RetraceAnswers : (file trace out told : List ℕ) → Bool → List ℕ → List ℕ → Type 0
RetraceAnswers file trace out told a out' told' = Making (λ w o. Retraces file trace out w o) out told a out' told'

-- or made with the check of block 0 put right.
abbrev pub MendAnswers : (file out told : List ℕ) → Bool → List ℕ → List ℕ → Type 0
MendAnswers file out told a out' told' = Making (λ w o. Mends file out w o) out told a out' told'
