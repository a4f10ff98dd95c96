-- What is shown of files made from others, each under one sentence. proofs/Laws.antt proves them all. Assumes nothing.
use Rattle.std.specs.Prelude.{◌≡◌, List, ◌⊎◌, ℕ, ◌+◌, ◌≤◌, length, take, Ok, Err}
use Rattle.model.specs.Table.{Bounded}
use Rattle.table.specs.declared.answer.Refusal.TheVariants.{Waiting}
use Rattle.flaw.specs.declared.Flaw.TheVariants.{Check}
use Rattle.block.specs.Limits.{block_size, check_at}
use Rattle.block.specs.Block.{byte, stored, check}
use Rattle.house.specs.File.{GoodForm, rows_of, events_of, contents_of}
use Rattle.house.specs.Laws.{GoodContents, GoodFile}
use Rattle.house.specs.Reading.{form_test, verdict}
use Rattle.house.specs.Refusals.{told}
use Rattle.house.specs.declared.answer.Refusal.{Refusal}
use Rattle.house.specs.declared.answer.Refusal.TheVariants.{Block, Content}
use Rattle.house.specs.Verdict.{Verdict}
use Rattle.writer.specs.Writing.{needed, Writes}
use Rattle.writer.specs.Laws.{Bytes, SameBytes}
use Rattle.writer.specs.Answer.{Writing}
use Rattle.remake.specs.Remaking.{row_room, event_room, changed, Remakes, waiting_at, losses_at, Elsewhere, Rebinds, rows_end, Retraces}
use Rattle.remake.specs.Mending.{Mends}

-- Two answers for the same file, change and buffer are equal, and they leave the same bytes.
abbrev pub OneRemaking : Type 0
OneRemaking =
    (v : Verdict) (s : List ℕ) (waiting losses : ℕ) (trace o : List ℕ) (w₁ w₂ : Writing) (o₁ o₂ : List ℕ)
    → Remakes v s waiting losses trace o w₁ o₁ → Remakes v s waiting losses trace o w₂ o₂ → (w₁ ≡ w₂) × (o₁ ≡ o₂)

-- So of other bounds,
abbrev pub OneRebinding : Type 0
OneRebinding =
    (s : List ℕ) (waiting losses : ℕ) (o : List ℕ) (w₁ w₂ : Writing) (o₁ o₂ : List ℕ) → Rebinds s waiting losses o w₁ o₁
    → Rebinds s waiting losses o w₂ o₂ → (w₁ ≡ w₂) × (o₁ ≡ o₂)

-- and of another trace.
abbrev pub OneRetracing : Type 0
OneRetracing =
    (s trace o : List ℕ) (w₁ w₂ : Writing) (o₁ o₂ : List ℕ) → Retraces s trace o w₁ o₁ → Retraces s trace o w₂ o₂
    → (w₁ ≡ w₂) × (o₁ ≡ o₂)

-- WHO ANSWERS

-- Of a file whose form is good, whatever it holds, the writer answers what is to be rebound;
abbrev pub FormWritten : Type 0
FormWritten =
    (s : List ℕ) (waiting losses : ℕ) (o : List ℕ) (w : Writing) (o' : List ℕ) → GoodForm s → Rebinds s waiting losses o w o'
    → Writes (changed s waiting losses (events_of s)) (rows_of s) (events_of s) o w o'

-- and of a good file, which is never refused for want of room to read it in, what gets another trace.
abbrev pub GoodWritten : Type 0
GoodWritten =
    (s trace o : List ℕ) (w : Writing) (o' : List ℕ) → GoodFile s (contents_of s) → Retraces s trace o w o'
    → Writes (changed s (contents_of s).waiting (contents_of s).losses trace) (rows_of s) trace o w o'

-- A good file with its own bounds, or with its own trace, comes out as it went in.
abbrev pub SameAgain : Type 0
SameAgain =
    (s o : List ℕ) (w : Writing) (o' : List ℕ) → Bytes s → GoodFile s (contents_of s) → length s ≤ length o
    → Rebinds s (contents_of s).waiting (contents_of s).losses o w o' ⊎ Retraces s (events_of s) o w o' → SameBytes s w o'

-- THE BOUNDS THAT ARE GIVEN

-- With 5 and 6 are told the bounds that are given, never the file's own.
pub record OfTheGiven (waiting losses : ℕ) (r : Refusal) : Type 0 where
  pub five : (told r).number ≡ 5 → (told r).place ≡ waiting
  pub six : (told r).number ≡ 6 → (told r).place ≡ losses

abbrev pub GivenTold : Type 0
GivenTold =
    (s : List ℕ) (waiting losses : ℕ) (o : List ℕ) (r : Refusal) (o' : List ℕ) → Rebinds s waiting losses o (Err r) o'
    → OfTheGiven waiting losses r

-- A file that is good but for its bounds is rebound with any good ones, if the buffer has room:
abbrev pub AnyRebound : Type 0
AnyRebound =
    (s : List ℕ) (waiting losses : ℕ) (o : List ℕ) (w : Writing) (o' : List ℕ) → GoodForm s
    → GoodContents (changed s waiting losses (events_of s)) (rows_of s) (events_of s)
    → needed (changed s waiting losses (events_of s)) ≤ length o → Rebinds s waiting losses o w o'
    → w ≡ Ok (needed (changed s waiting losses (events_of s)))

-- there is one that the reader refuses with 5, and that is rebound.
pub record RefusedYetRebound (s : List ℕ) : Type 0 where
  pub refused : verdict s row_room event_room ≡ Err (Content (Waiting 0))
  pub rebound : (o : List ℕ) (w : Writing) (o' : List ℕ) → block_size ≤ length o → Rebinds s 1 1 o w o' → w ≡ Ok block_size

abbrev pub SomeRebound : Type 0
SomeRebound = (s : List ℕ) × RefusedYetRebound s

-- WHAT CHANGES

-- A rebound file f differs from the old file s in its two bounds and one check alone: every byte but those two and the check of block 0 is
-- as in the old file, and there is no other byte;
pub record BoundsAlone (s : List ℕ) (waiting losses : ℕ) (f : List ℕ) : Type 0 where
  pub as_long : length f ≡ length s
  pub elsewhere : (i : ℕ) → Elsewhere i → byte f i ≡ byte s i
  -- in their places stand the new bounds, and the check of the bytes before it
  pub waiting_there : byte f waiting_at ≡ waiting
  pub losses_there : byte f losses_at ≡ losses
  pub check_there : stored f ≡ check f

abbrev pub ReboundAlone : Type 0
ReboundAlone =
    (s : List ℕ) (waiting losses : ℕ) (o : List ℕ) (n : ℕ) (o' : List ℕ) → Bytes s → Rebinds s waiting losses o (Ok n) o'
    → BoundsAlone s waiting losses (take n o')

-- and less would not do: with another bound its byte is another, and so is the check, if the old bounds were good. (B 1 and c 11, which
-- are not, weigh as much as B 12 and c 1.)
pub record NoLess (s : List ℕ) (waiting losses : ℕ) (f : List ℕ) : Type 0 where
  pub waiting_moves : (waiting ≡ (contents_of s).waiting → ⊥) → byte f waiting_at ≡ byte s waiting_at → ⊥
  pub losses_move : (losses ≡ (contents_of s).losses → ⊥) → byte f losses_at ≡ byte s losses_at → ⊥
  pub check_moves : Bounded (contents_of s).waiting (contents_of s).losses
      → ((waiting ≡ (contents_of s).waiting) × (losses ≡ (contents_of s).losses) → ⊥) → stored f ≡ stored s → ⊥

abbrev pub NoLessDoes : Type 0
NoLessDoes =
    (s : List ℕ) (waiting losses : ℕ) (o : List ℕ) (n : ℕ) (o' : List ℕ) → Bytes s → Rebinds s waiting losses o (Ok n) o'
    → NoLess s waiting losses (take n o')

-- A file with another trace has block 0 and the blocks of rows of the old file, byte for byte; behind them are the events alone.
pub record TraceAlone (s trace f : List ℕ) : Type 0 where
  pub start : take (rows_end (rows_of s)) f ≡ take (rows_end (rows_of s)) s
  pub events : events_of f ≡ trace

abbrev pub RetracedAlone : Type 0
RetracedAlone =
    (s trace o : List ℕ) (n : ℕ) (o' : List ℕ) → Bytes s → Retraces s trace o (Ok n) o' → TraceAlone s trace (take n o')

-- THE CHECK PUT RIGHT

-- Two answers for the same file and buffer are equal, and they leave the same bytes.
abbrev pub OneMending : Type 0
OneMending = (s o : List ℕ) (w₁ w₂ : Writing) (o₁ o₂ : List ℕ) → Mends s o w₁ o₁ → Mends s o w₂ o₂ → (w₁ ≡ w₂) × (o₁ ≡ o₂)

-- A mended file f differs from the old file s in the check of block 0 alone: every byte but those two is as in the old file, there is no
-- other byte, and the check is that of the bytes before it.
pub record CheckAlone (s f : List ℕ) : Type 0 where
  pub as_long : length f ≡ length s
  pub elsewhere : (i : ℕ) → (i ≡ check_at → ⊥) → (i ≡ check_at + 1 → ⊥) → byte f i ≡ byte s i
  pub check_there : stored f ≡ check f

abbrev pub MendedAlone : Type 0
MendedAlone = (s o : List ℕ) (n : ℕ) (o' : List ℕ) → Mends s o (Ok n) o' → CheckAlone s (take n o')

-- A file of bytes whose check of block 0 is right comes out as it went in.
abbrev pub MendedSame : Type 0
MendedSame = (s o : List ℕ) (n : ℕ) (o' : List ℕ) → Bytes s → stored s ≡ check s → Mends s o (Ok n) o' → take n o' ≡ s

-- 12 is never told of block 0 of a mended file.
abbrev pub MendedPasses : Type 0
MendedPasses =
    (s o : List ℕ) (n : ℕ) (o' : List ℕ) → Mends s o (Ok n) o' → form_test (take n o') ≡ Err (Block Check 0) → ⊥
