-- Document 01, "Small cases": what the listing program prints of a file, byte by byte, and what it answers. Assumes nothing.
use Rattle.std.specs.Prelude.{◌≡◌, Bool, true, cond, Option, List, [], ◌++◌, ℕ, zero, suc, ◌+◌, ◌-◌, ◌*◌, ◌/◌, ◌<◌, eqb, ltb, leb, length, take, drop, get_or, Some, None, Ok, Err}
use Rattle.std.specs.Io.KnownBytes.{Appends}
use Rattle.lines.specs.Lines.{header, event_line, last_line, refused_line}
use Rattle.house.specs.Limits.{most_bytes}
use Rattle.house.specs.Refusals.{told}
use Rattle.house.specs.declared.answer.Refusal.{Refusal}
use Rattle.house.specs.declared.answer.Refusal.TheVariants as refusal
use Rattle.lister.specs.Judging.{Judges}
use Rattle.lister.specs.Judged.{Judged}
use Rattle.lister.specs.declared.Outcome.{Outcome}
use Rattle.lister.specs.declared.Outcome.TheVariants as outcome

-- The most events of a house file, and the most bytes that a run over them writes: the rooms that the program has.
abbrev pub event_room : ℕ
event_room = 4096

abbrev pub result_room : ℕ
result_room = 49152

-- WHAT IS PRINTED

-- The twelve bytes of event k among a run's results; none, where there are not so many.
abbrev pub twelve_of : List ℕ → ℕ → List ℕ
twelve_of results k = cond (ltb k (length results / 12)) (take 12 (drop (12 * k) results)) []

-- The line of event k.
abbrev pub line_at : List ℕ → List ℕ → ℕ → List ℕ
line_at events results k = event_line k (get_or events k 0) (twelve_of results k)

-- 11 tells the file's own length: of a file that is too long only a part was kept.
abbrev pub true_length : Refusal → ℕ → Refusal
true_length (refusal.Length kept) n = refusal.Length n
true_length (refusal.Block flaw block) n = refusal.Block flaw block
true_length refusal.Standard n = refusal.Standard
true_length (refusal.Content content) n = refusal.Content content

-- A refused file prints only `refused`, the number and the place.
abbrev pub refusal_line : Refusal → ℕ → List ℕ
refusal_line r n = refused_line (told (true_length r n))

-- The first k of some texts, one after another.
unfoldable pub joined : (ℕ → List ℕ) → ℕ → List ℕ
joined text zero = []
joined text (suc k) = joined text k ++ text k

-- It prints exactly: the header, a line an event, the last line; or the one line of a refused file. The file has n bytes; its events, and
-- the results of the run over them, are what `Judges` leaves.
abbrev pub listing_of : Judged → ℕ → List ℕ → List ℕ → List ℕ
listing_of (Err r) n events results = refusal_line r n
listing_of (Ok (m, f)) n events results = header ++ joined (line_at events results) m ++ last_line f

-- PIECE BY PIECE

-- Piece 0 is the header, piece k + 1 the line of event k, and the last line follows.
abbrev pub run_piece : ℕ → Option ℕ → List ℕ → List ℕ → ℕ → List ℕ
run_piece m f events results k = cond (eqb k 0) header (cond (leb k m) (line_at events results (k - 1)) (last_line f))

abbrev pub piece_of : Judged → ℕ → List ℕ → List ℕ → ℕ → List ℕ
piece_of (Err r) n events results k = refusal_line r n
piece_of (Ok (m, f)) n events results k = run_piece m f events results k

abbrev pub events_in : Judged → ℕ
events_in (Err r) = 0
events_in (Ok (m, f)) = m

abbrev pub pieces_of : Judged → ℕ
pieces_of (Err r) = 1
pieces_of (Ok (m, f)) = m + 2

-- WHAT IS ANSWERED

abbrev pub verdict_of : Option ℕ → Outcome
verdict_of None = outcome.Consistent
verdict_of (Some place) = outcome.Flagged

abbrev pub outcome_of : Judged → Outcome
outcome_of (Err r) = outcome.Refused
outcome_of (Ok (m, f)) = verdict_of f

-- A listing that could not be written comes to nothing.
abbrev pub unless_broken : Bool → Outcome → Outcome
unless_broken said o = cond said o outcome.Broken

-- What judging the bytes s leaves in the program's rooms, whatever stood there before.
pub record Leaves (s : List ℕ) (j : Judged) (events results : List ℕ) : Type 0 where
  pub events_before : List ℕ
  pub results_before : List ℕ
  pub event_room_is : length events_before ≡ event_room
  pub result_room_is : length results_before ≡ result_room
  pub judges : Judges s events_before results_before j events results

-- What the listing of these bytes comes to, whether or not it could be written.
pub record Comes (s : List ℕ) (r : Outcome) : Type 0 where
  pub judged : Judged
  pub events : List ℕ
  pub results : List ℕ
  pub leaves : Leaves s judged events results
  pub said : Bool
  pub is : r ≡ unless_broken said (outcome_of judged)

-- What listing these bytes, kept of a file of n bytes, leaves in a writer: unless it could not be written, the whole listing stands behind
-- what the writer had, as far as the writer's bytes are known.
pub record Writes (before after : Option (List ℕ)) (s : List ℕ) (n : ℕ) (r : Outcome) : Type 0 where
  pub comes : Comes s r
  pub written : comes.said ≡ true → Appends before after (listing_of comes.judged n comes.events comes.results)

-- Bytes that were kept of a file: all of it, or more of its start than a house file has.
abbrev pub Kept : List ℕ → List ℕ → Type 0
Kept f s = (m : ℕ) × (most_bytes < m) × (s ≡ take m f)

-- The listing of a file: its text, and what it comes to where it could be written.
pub record Lists (f text : List ℕ) (r : Outcome) : Type 0 where
  pub kept : List ℕ
  pub judged : Judged
  pub events : List ℕ
  pub results : List ℕ
  pub is_kept : Kept f kept
  pub leaves : Leaves kept judged events results
  pub text_is : text ≡ listing_of judged (length f) events results
  pub outcome_is : r ≡ outcome_of judged
