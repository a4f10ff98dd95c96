-- What is shown of listing, each under one sentence. proofs/Laws.antt proves them all. Assumes nothing.
use Rattle.std.specs.Prelude.{◌≡◌, List, ◌++◌, ◌↔◌, ℕ, suc, ◌-◌, ◌≤◌, ◌<◌, length, take, drop, get_or, Option, Some, None, Ok, Err}
use Rattle.model.specs.Table.{Table}
use Rattle.model.specs.Model.{box, events, Set, Plausible, FlagIs}
use Rattle.table.specs.Bytes.{table_of}
use Rattle.table.specs.Refusals.{told_at}
use Rattle.session.specs.Session.{place_of}
use Rattle.lines.specs.Texts.{most_text, text_of}
use Rattle.lines.specs.Lines.{header, last_line, refused_line, consistent, flagged, refused}
use Rattle.lines.specs.Laws.{Tells}
use Rattle.intake.specs.Inputs.{Keeps}
use Rattle.intake.specs.declared.Input.{Input}
use Rattle.house.specs.Limits.{most_bytes}
use Rattle.house.specs.File.{rows_of, events_of, contents_of}
use Rattle.house.specs.Reading.{verdict}
use Rattle.house.specs.Refusals.{told}
use Rattle.house.specs.Laws.{GoodFile}
use Rattle.house.specs.declared.answer.Refusal.{Refusal}
use Rattle.lister.specs.Judging.{row_room, rows_meant, RunsFile, Judges}
use Rattle.lister.specs.Listing.{event_room, result_room, joined, listing_of, piece_of, pieces_of}
use Rattle.lister.specs.Listing.{verdict_of, outcome_of, Kept, Lists}
use Rattle.lister.specs.Putting.{text_room, no_summary, outcome_told, Texts}
use Rattle.lister.specs.declared.Summary.{Summary}
use Rattle.lister.specs.declared.Outcome.{Outcome}
use Rattle.lister.specs.declared.Outcome.TheVariants as outcome
use Rattle.lister.specs.Judged.{Judged}

-- WHAT IS JUDGED

-- Any two answers are equal, and so is the memory that they leave.
abbrev pub OneJudging : Type 0
OneJudging =
    (s e o : List ℕ) (j₁ j₂ : Judged) (e₁ e₂ o₁ o₂ : List ℕ) → Judges s e o j₁ e₁ o₁ → Judges s e o j₂ e₂ o₂
    → (j₁ ≡ j₂) × (e₁ ≡ e₂) × (o₁ ≡ o₂)

-- Every good file is listed, with the run of its trace under its table and bounds: the model's plausible sets and flag.
abbrev pub GoodListed : Type 0
GoodListed =
    (s e o : List ℕ) (j : Judged) (e' o' : List ℕ) → event_room ≤ length e → result_room ≤ length o → GoodFile s (contents_of s)
    → Judges s e o j e' o' → (f : Option ℕ) × (j ≡ Ok (length (events_of s), f)) × RunsFile s o o' f

-- Only a file that is not good is refused.
abbrev pub OnlyBadRefused : Type 0
OnlyBadRefused =
    (s e o : List ℕ) (r : Refusal) (e' o' : List ℕ) → event_room ≤ length e → result_room ≤ length o → Judges s e o (Err r) e' o'
    → GoodFile s (contents_of s) → ⊥

-- PIECE BY PIECE

-- The pieces, one after another, are the whole listing.
abbrev pub PiecesJoined : Type 0
PiecesJoined =
    (j : Judged) (n : ℕ) (events results : List ℕ) → joined (piece_of j n events results) (pieces_of j) ≡ listing_of j n events results

-- Memory of bytes.
abbrev pub Bytes : List ℕ → Type 0
Bytes l = (i : ℕ) → get_or l i 0 < 256

-- No piece is cut short: each fits in a text, whose bytes it is.
abbrev pub PieceFits : Type 0
PieceFits =
    (j : Judged) (n : ℕ) (events results : List ℕ) (k : ℕ) → Bytes events → Bytes results
    → length (piece_of j n events results k) ≤ most_text

abbrev pub PieceHeld : Type 0
PieceHeld =
    (j : Judged) (n : ℕ) (events results : List ℕ) (k : ℕ) → Bytes events → Bytes results
    → text_of (piece_of j n events results k) ≡ piece_of j n events results k

-- The line says that the listing came to this: its first word is `consistent`, `flagged` or `refused`.
abbrev pub Says : Outcome → List ℕ → Type 0
Says outcome.Consistent line = take (length consistent) line ≡ consistent
Says outcome.Flagged line = take (length flagged) line ≡ flagged
Says outcome.Refused line = take (length refused) line ≡ refused
Says outcome.Broken line = ⊥

-- The outcome is what the last line says, and no line says two.
abbrev pub LastSays : Type 0
LastSays = (j : Judged) (n : ℕ) (events results : List ℕ) → Says (outcome_of j) (piece_of j n events results (pieces_of j - 1))

abbrev pub OneSaid : Type 0
OneSaid = (a b : Outcome) (line : List ℕ) → Says a line → Says b line → a ≡ b

-- THE LISTING OF A FILE

-- What the program keeps of an input that it read whole, in a room of one byte more than a house file has, is kept of a file of the length
-- that it tells.
abbrev pub WholeInput : Type 0
WholeInput =
    (buffer : List ℕ) (r : Input) (n : ℕ) → length buffer ≡ suc most_bytes → Keeps buffer r → r.length ≡ Ok n
    → (f : List ℕ) × Kept f (take r.kept buffer) × (length f ≡ n)

-- The table that a file means, and the plausible set after the first k of its events.
abbrev pub table_meant : List ℕ → Table
table_meant f =
    table_of (rows_meant (contents_of f).source (rows_of f)) (contents_of f).states (contents_of f).inputs (contents_of f).outputs

abbrev pub PlausibleAfter : List ℕ → ℕ → Set ℕ
PlausibleAfter f k = Plausible (box (table_meant f)) (contents_of f).waiting (contents_of f).losses (events (take k (events_of f)))

-- Of a good file: the header; for each event the line that tells the plausible set after it; and the last line, by the flag.
pub record GoodListing (f text : List ℕ) (r : Outcome) : Type 0 where
  pub flag : Option ℕ
  pub line : ℕ → List ℕ
  pub flag_is : FlagIs (box (table_meant f)) (contents_of f).waiting (contents_of f).losses (events (events_of f)) (place_of flag)
  pub tells : (k : ℕ) → k < length (events_of f) → Tells (PlausibleAfter f (suc k)) k (get_or (events_of f) k 0) (line k)
  pub text_is : text ≡ header ++ joined line (length (events_of f)) ++ last_line flag
  pub outcome_is : r ≡ verdict_of flag

abbrev pub GoodText : Type 0
GoodText = (f text : List ℕ) (r : Outcome) → GoodFile f (contents_of f) → Lists f text r → GoodListing f text r

-- Of any other file: the one line with document 01's number and places of its refusal, and nothing besides.
pub record OtherListing (f text : List ℕ) (r : Outcome) : Type 0 where
  pub refusal : Refusal
  pub refused_by : verdict f row_room event_room ≡ Err refusal
  pub text_is : text ≡ refused_line (told refusal)
  pub outcome_is : r ≡ outcome.Refused

abbrev pub OtherText : Type 0
OtherText = (f text : List ℕ) (r : Outcome) → (GoodFile f (contents_of f) → ⊥) → Lists f text r → OtherListing f text r

-- A file has one listing, and it comes to one thing.
abbrev pub OneListing : Type 0
OneListing = (f t₁ t₂ : List ℕ) (r₁ r₂ : Outcome) → Lists f t₁ r₁ → Lists f t₂ r₂ → (t₁ ≡ t₂) × (r₁ ≡ r₂)

-- THE LISTING IN MEMORY

-- Memory that is shorter than the room stays as it was, and nothing is told.
abbrev pub TextShort : Type 0
TextShort =
    (s : List ℕ) (n : ℕ) (o : List ℕ) (r : Summary) (o' : List ℕ) → length o < text_room → Texts s n o r o' → (r ≡ no_summary) × (o' ≡ o)

-- No bytes are told exactly then: every listing has some.
abbrev pub TextNone : Type 0
TextNone = (s : List ℕ) (n : ℕ) (o : List ℕ) (r : Summary) (o' : List ℕ) → Texts s n o r o' → r.bytes ≡ 0 ↔ (length o < text_room)

-- The text is never longer than the room.
abbrev pub TextFits : Type 0
TextFits = (s : List ℕ) (n : ℕ) (o : List ℕ) (r : Summary) (o' : List ℕ) → Texts s n o r o' → r.bytes ≤ text_room

-- There are at most 4,096 events, and a flag's place is that of one of them.
pub record Placed (r : Summary) : Type 0 where
  pub few : r.events ≤ event_room
  pub within : (place : ℕ) → r.flag ≡ Some place → place < r.events

abbrev pub TextPlaced : Type 0
TextPlaced = (s : List ℕ) (n : ℕ) (o : List ℕ) (r : Summary) (o' : List ℕ) → Texts s n o r o' → Placed r

-- What is put of a file is its listing, and later bytes stay.
abbrev pub TextLists : Type 0
TextLists =
    (f s o : List ℕ) (r : Summary) (o' : List ℕ) → Kept f s → text_room ≤ length o → Texts s (length f) o r o'
    → Lists f (take r.bytes o') (outcome_told r) × (drop r.bytes o' ≡ drop r.bytes o)

-- Number 0 is told exactly of a good file.
abbrev pub TextGood : Type 0
TextGood =
    (f s o : List ℕ) (r : Summary) (o' : List ℕ) → Kept f s → text_room ≤ length o → Texts s (length f) o r o'
    → r.told.number ≡ 0 ↔ GoodFile f (contents_of f)

-- With a good file's listing are told how many events it has, and the model's flag.
pub record GoodSummary (f : List ℕ) (r : Summary) : Type 0 where
  pub unrefused : r.told ≡ told_at 0 0
  pub events_are : r.events ≡ length (events_of f)
  pub flag_is : FlagIs (box (table_meant f)) (contents_of f).waiting (contents_of f).losses (events (events_of f)) (place_of r.flag)

abbrev pub GoodTold : Type 0
GoodTold =
    (f s o : List ℕ) (r : Summary) (o' : List ℕ) → GoodFile f (contents_of f) → Kept f s → text_room ≤ length o
    → Texts s (length f) o r o' → GoodSummary f r

-- With any other's are told document 01's number and places of its refusal, no events and no flag.
pub record OtherSummary (f : List ℕ) (r : Summary) : Type 0 where
  pub refusal : Refusal
  pub refused_by : verdict f row_room event_room ≡ Err refusal
  pub told_is : r.told ≡ told refusal
  pub events_are : r.events ≡ 0
  pub flag_is : r.flag ≡ None

abbrev pub OtherTold : Type 0
OtherTold =
    (f s o : List ℕ) (r : Summary) (o' : List ℕ) → (GoodFile f (contents_of f) → ⊥) → Kept f s → text_room ≤ length o
    → Texts s (length f) o r o' → OtherSummary f r

-- Of one input there is one answer, and one content of the memory that was lent.
abbrev pub OneText : Type 0
OneText =
    (s : List ℕ) (n : ℕ) (o : List ℕ) (r₁ r₂ : Summary) (o₁ o₂ : List ℕ) → Texts s n o r₁ o₁ → Texts s n o r₂ o₂
    → (r₁ ≡ r₂) × (o₁ ≡ o₂)
