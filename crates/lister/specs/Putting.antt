-- The whole listing of a file in memory that is lent, and what is told with it, for every input. Assumes nothing.
use Rattle.std.specs.Prelude.{◌≡◌, true, false, cond, List, ℕ, ◌+◌, ◌*◌, ◌≤◌, eqb, leb, length, Option, None, Ok, Err}
use Rattle.lent.specs.Lent.{front}
use Rattle.table.specs.Refusals.{told_at}
use Rattle.table.specs.declared.answer.Told.{Told}
use Rattle.lines.specs.Texts.{most_text}
use Rattle.house.specs.Refusals.{told}
use Rattle.lister.specs.Listing.{event_room, true_length, joined, listing_of, events_in, verdict_of, Leaves}
use Rattle.lister.specs.Judged.{Judged}
use Rattle.lister.specs.declared.Outcome.{Outcome}
use Rattle.lister.specs.declared.Outcome.TheVariants as outcome
use Rattle.lister.specs.declared.Summary.{Summary}

-- The most pieces that a listing has: the header, a line an event and the last line.
abbrev pub most_pieces : ℕ
most_pieces = event_room + 2

-- The memory that is asked for: enough for every listing (`TextFits`).
abbrev pub text_room : ℕ
text_room = most_pieces * most_text

-- WHAT IS TOLD

-- The number and the places of a refusal, as the listing of a file of n bytes has them. What is not refused has number 0, and places 0.
abbrev pub refusal_told : Judged → ℕ → Told
refusal_told (Err r) n = told (true_length r n)
refusal_told (Ok (m, f)) n = told_at 0 0

-- A refused file has no flag.
abbrev pub flag_told : Judged → Option ℕ
flag_told (Err r) = None
flag_told (Ok (m, f)) = f

-- What is told with this text.
abbrev pub summary_of : Judged → ℕ → List ℕ → Summary
summary_of j n text = record { told = refusal_told j n; bytes = length text; events = events_in j; flag = flag_told j }

-- What is told where nothing is put.
abbrev pub no_summary : Summary
no_summary = record { told = told_at 0 0; bytes = 0; events = 0; flag = None }

-- What the listing comes to that this is told with.
abbrev pub outcome_told : Summary → Outcome
outcome_told r = cond (eqb r.told.number 0) (verdict_of r.flag) outcome.Refused

-- WHAT IS PUT

-- Memory that has room for so many pieces, whatever they are.
abbrev pub Roomy : ℕ → List ℕ → Type 0
Roomy k o = (k ≤ most_pieces) × (text_room ≤ length o)

-- The first k of some texts, one after another, are at the start of memory o, later bytes stay, and they are a bytes.
pub record Puts (text : ℕ → List ℕ) (k : ℕ) (o : List ℕ) (a : ℕ) (o' : List ℕ) : Type 0 where
  pub memory : o' ≡ front o (joined text k)
  pub bytes : a ≡ length (joined text k)
  pub fits : a ≤ text_room

-- What is told, and what stands in memory o, of a file of n bytes of which s was kept.
pub data Texts (s : List ℕ) (n : ℕ) (o : List ℕ) : Summary → List ℕ → Type 0 where
  -- memory that is shorter than the room stays as it was
  short : leb text_room (length o) ≡ false → Texts s n o no_summary o
  -- any other has all of the listing at its start, which is never longer than the room, and later bytes stay
  put : {j : Judged} {events results : List ℕ} → leb text_room (length o) ≡ true → Leaves s j events results
      → length (listing_of j n events results) ≤ text_room
      → Texts s n o (summary_of j n (listing_of j n events results)) (front o (listing_of j n events results))
