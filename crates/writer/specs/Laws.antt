-- What is shown of writing, each under one sentence. proofs/Laws.antt proves them all. Assumes nothing.
use Rattle.std.specs.Prelude.{◌≡◌, List, ◌↔◌, ℕ, ◌≤◌, ◌<◌, length, take, Ok, Err}
use Rattle.block.specs.Block.{byte}
use Rattle.house.specs.Limits.{most_rows, most_events}
use Rattle.house.specs.File.{GoodForm, rows_of, events_of, contents_of}
use Rattle.house.specs.Reading.{given, Answers}
use Rattle.house.specs.Laws.{GoodContents, Starts}
use Rattle.house.specs.declared.answer.Contents.{Contents}
use Rattle.house.specs.Verdict.{Reading}
use Rattle.house.specs.declared.answer.Refusal.{Refusal}
use Rattle.writer.specs.Writing.{needed, write_test, IsFile, Writes}
use Rattle.writer.specs.Layout.{file_of}
use Rattle.writer.specs.Answer.{Writing}

-- THE FILE

-- Contents, rows and events that are in agreement about how many rows and events there are.
pub record Counted (c : Contents) (rows trace : List ℕ) : Type 0 where
  pub row_count : c.rows ≡ length rows
  pub event_count : c.events ≡ length trace

-- The bytes that the writer lays out are a file of these contents, by the reader's definition, whatever they are, if there are no more
-- rows and events than good contents have,
abbrev pub LaidOut : Type 0
LaidOut =
    (c : Contents) (rows trace : List ℕ) → Counted c rows trace → length rows ≤ most_rows → length trace ≤ most_events
    → IsFile (file_of c rows trace) c rows trace

-- as long as 10 says,
abbrev pub LongAsNeeded : Type 0
LongAsNeeded = (c : Contents) (rows trace : List ℕ) → Counted c rows trace → length (file_of c rows trace) ≡ needed c

-- and there is no other: files that hold the same are the same.
abbrev pub OneFile : Type 0
OneFile = (f g : List ℕ) (c : Contents) (rows trace : List ℕ) → IsFile f c rows trace → IsFile g c rows trace → f ≡ g

-- A list of bytes.
abbrev pub Bytes : List ℕ → Type 0
Bytes f = (i : ℕ) → byte f i < 256

-- A file of bytes whose form is good is the file of what it holds.
abbrev pub GoodIsFile : Type 0
GoodIsFile = (s : List ℕ) → Bytes s → GoodForm s → IsFile s (contents_of s) (rows_of s) (events_of s)

-- THE WRITING

-- A file is written exactly when its contents are good and the buffer has room.
abbrev pub WriteExactly : Type 0
WriteExactly =
    (c : Contents) (rows trace : List ℕ) (space : ℕ) → Counted c rows trace
    → write_test c rows trace space ≡ Ok tt ↔ (GoodContents c rows trace × (needed c ≤ space))

-- Two writings of the same things into the same buffer give one answer and leave the same bytes.
abbrev pub OneWriting : Type 0
OneWriting =
    (c : Contents) (rows trace o : List ℕ) (w₁ w₂ : Writing) (o₁ o₂ : List ℕ) → Writes c rows trace o w₁ o₁ → Writes c rows trace o w₂ o₂
    → (w₁ ≡ w₂) × (o₁ ≡ o₂)

-- A refused write writes nothing.
abbrev pub NothingWritten : Type 0
NothingWritten = (c : Contents) (rows trace o : List ℕ) (r : Refusal) (o' : List ℕ) → Writes c rows trace o (Err r) o' → o' ≡ o

-- BOTH ROUND TRIPS

-- Reading back gives the same things: what was written is read, into any buffers that have room, and counts, bounds, source, rows and
-- events are those that were given.
pub record SameThings (c : Contents) (rows trace d e : List ℕ) (r : Reading) (d' e' : List ℕ) : Type 0 where
  pub contents : r ≡ Ok c
  pub rows_back : Starts d d' rows (length rows)
  pub events_back : Starts e e' trace (length trace)

abbrev pub ReadsBack : Type 0
ReadsBack =
    (c : Contents) (rows trace o : List ℕ) (n : ℕ) (o' d e : List ℕ) (r : Reading) (d' e' : List ℕ)
    → Counted c rows trace → Writes c rows trace o (Ok n) o'
    → length rows ≤ length d → length trace ≤ length e → Answers (take n o') d e r d' e'
    → SameThings c rows trace d e r d' e'

-- Writing what was read from any good file gives the same bytes: the source, counts and bounds that `read` answered, and the rows and the
-- events that it left at the starts of its buffers, are what `write` is given, with a buffer that has room.
pub record SameBytes (s : List ℕ) (w : Writing) (o' : List ℕ) : Type 0 where
  pub answer : w ≡ Ok (length s)
  pub bytes : take (length s) o' ≡ s

abbrev pub WritesWhatWasRead : Contents → List ℕ → List ℕ → List ℕ → Writing → List ℕ → Type 0
WritesWhatWasRead c rows trace o w o' =
    Writes (given c.source c.states c.inputs c.outputs c.waiting c.losses rows trace) rows trace o w o'

abbrev pub WritesBack : Type 0
WritesBack =
    (s d e : List ℕ) (c : Contents) (d' e' o : List ℕ) (w : Writing) (o' : List ℕ)
    → Bytes s → Answers s d e (Ok c) d' e' → length s ≤ length o
    → WritesWhatWasRead c (take c.rows d') (take c.events e') o w o'
    → SameBytes s w o'
