-- What each function of this crate answers and leaves in the memory lent to it, for every input. Its answer is false exactly when the
-- memory for its results is too short, and then nothing is written. What is longer keeps the rest. Assumes nothing.
use Rattle.std.specs.Prelude.{◌≡◌, Bool, true, false, List, [], ◌∷◌, ℕ, leb, length, Some, None, Ok, Err}
use Rattle.lent.specs.Lent.{front}
use Rattle.capture.specs.Importing.{Imports}
use Rattle.capture.specs.Reading.{handed_at}
use Rattle.capture.specs.Refusals.{told_imported, count_imported, told_taken, event_taken}
use Rattle.capture.specs.declared.answer.Handed.{Handed}
use Rattle.capture.specs.Answers.{Imported, Taken}

-- An import: the number, both places, as every function tells them, and how many events were written.
abbrev pub import_size : ℕ
import_size = 4

abbrev pub import_results : Imported → List ℕ
import_results r = (told_imported r).number ∷ (told_imported r).place ∷ (told_imported r).second ∷ count_imported r ∷ []

-- One call of the reader: the number, both places, 1 for an event and 0 else, the event byte, and the reader's place then.
abbrev pub hand_size : ℕ
hand_size = 6

abbrev pub event_told : Taken → ℕ
event_told (Ok (Some byte)) = 1
event_told (Ok None) = 0
event_told (Err r) = 0

abbrev pub hand_results : Handed → List ℕ
hand_results h =
    (told_taken h.taken).number
    ∷ (told_taken h.taken).place
    ∷ (told_taken h.taken).second
    ∷ event_told h.taken
    ∷ event_taken h.taken
    ∷ h.place
    ∷ []

-- The results are at the start of their memory. What is in the buffer of events is the import's part.
pub data Importing (capture events told : List ℕ) : Bool → List ℕ → List ℕ → Type 0 where
  short : leb import_size (length told) ≡ false → Importing capture events told false events told
  imports : {r : Imported} {events' : List ℕ} → leb import_size (length told) ≡ true → Imports capture events r events'
      → Importing capture events told true events' (front told (import_results r))

pub data Handing (capture : List ℕ) (place : ℕ) (told : List ℕ) : Bool → List ℕ → Type 0 where
  short : leb hand_size (length told) ≡ false → Handing capture place told false told
  hands : leb hand_size (length told) ≡ true → Handing capture place told true (front told (hand_results (handed_at capture place)))
