-- What each function of this crate answers and leaves in the memory lent to it, for every input. Its answer is false exactly when the
-- memory for its results, or for a listing, is too short, and then nothing is written. What is longer keeps the rest. Assumes nothing.
use Rattle.std.specs.Prelude.{◌≡◌, Bool, true, false, ◌&&◌, List, ℕ, leb, length}
use Rattle.run.specs.Ran.{Ran}
use Rattle.run.specs.Run.{Runs}
use Rattle.house.specs.Verdict.{Reading}
use Rattle.lent.specs.Lent.{front}
use Rattle.house.specs.Reading.{Answers}
use Rattle.lister.specs.Putting.{text_room, Texts}
use Rattle.lister.specs.declared.Summary.{Summary}
use Rattle.lister.specs.declared.Outcome.{Outcome}
use Rattle.lister.specs.declared.Outcome.TheVariants.{Consistent, Flagged, Refused, Broken}
use Rattle.filedoors.specs.Results.{run_size, run_results, read_size, read_results, listing_size, listing_results}

-- A run: the results are at the start of their memory. What is in the result buffer is the monitor's part.
pub data Running (rows : List ℕ) (s i o B c : ℕ) (trace out told : List ℕ) : Bool → List ℕ → List ℕ → Type 0 where
  short : leb run_size (length told) ≡ false → Running rows s i o B c trace out told false out told
  ran : {r : Ran} {out' : List ℕ} → leb run_size (length told) ≡ true → Runs rows s i o B c trace out r out'
      → Running rows s i o B c trace out told true out' (front told (run_results r))

-- A read, likewise; what is in the two buffers is the reader's part.
pub data Read (file rows events told : List ℕ) : Bool → List ℕ → List ℕ → List ℕ → Type 0 where
  short : leb read_size (length told) ≡ false → Read file rows events told false rows events told
  read : {r : Reading} {rows' events' : List ℕ} → leb read_size (length told) ≡ true → Answers file rows events r rows' events'
      → Read file rows events told true rows' events' (front told (read_results r))

-- There is room for every listing, and for its results.
abbrev pub roomy : List ℕ → List ℕ → Bool
roomy out told = leb text_room (length out) && leb listing_size (length told)

-- A listing in memory, likewise, of a file of n bytes of which these were kept; what is in the memory for it is the lister's part.
pub data Listing (file : List ℕ) (n : ℕ) (out told : List ℕ) : Bool → List ℕ → List ℕ → Type 0 where
  short : roomy out told ≡ false → Listing file n out told false out told
  listed : {r : Summary} {out' : List ℕ} → roomy out told ≡ true → Texts file n out r out'
      → Listing file n out told true out' (front told (listing_results r))

-- What a listing came to, as a number.
abbrev pub outcome_number : Outcome → ℕ
outcome_number Consistent = 0
outcome_number Flagged = 1
outcome_number Refused = 2
outcome_number Broken = 3
