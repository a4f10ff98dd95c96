-- What is shown of reading, each under one sentence. proofs/Laws.antt proves them all. Assumes nothing.
use Rattle.std.specs.Prelude.{◌≡◌, true, false, List, [], ◌↔◌, ℕ, ◌≤◌, ◌<◌, length, take, drop, get_or, None, Ok, Err}
use Rattle.model.specs.Table.{Valid, Bounded}
use Rattle.table.specs.Bytes.{symbol_of, table_of}
use Rattle.flaw.specs.declared.Flaw.{Flaw}
use Rattle.block.specs.Block.{GoodBlock, block_test}
use Rattle.house.specs.Limits.{most_bytes, most_events, most_rows, standard_states, standard_inputs, standard_outputs}
use Rattle.house.specs.File.{block_at, blocks, block_before, GoodForm, rows_of, events_of, contents_of}
use Rattle.table.specs.Tests.{invalid_at}
use Rattle.house.specs.Reading.{is_whole, valid_events, held_test, form_test, verdict, Answers, Unpacks}
use Rattle.house.specs.Refusals.{told}
use Rattle.house.specs.declared.answer.Contents.{Contents}
use Rattle.house.specs.Verdict.{Reading}
use Rattle.house.specs.declared.answer.Refusal.{Refusal}
use Rattle.house.specs.declared.answer.Refusal.TheVariants.{Block}
use Rattle.house.specs.declared.answer.Source.{Source}
use Rattle.house.specs.declared.answer.Source.TheVariants.{Rows, Standard}

-- THE BLOCKS

-- 11, 12 and 20 to 23 are given exactly when the file has not 1 to 15 whole blocks that are all good.
abbrev pub FormPasses : Type 0
FormPasses = (s : List ℕ) → form_test s ≡ Ok tt ↔ GoodForm s

-- Block k is the first that is not good, and f is its first flaw.
pub record Faulty (s : List ℕ) (f : Flaw) (k : ℕ) : Type 0 where
  pub whole : is_whole (length s) ≡ true
  pub counted : k < blocks s
  pub before : (j : ℕ) → j < k → GoodBlock (block_at s j) j (block_before s j)
  pub flawed : block_test (block_at s k) k (block_before s k) ≡ Err f

-- 12 and 20 to 23 are told for the first block that is not good, with its first flaw; and only then.
abbrev pub BlockTold : Type 0
BlockTold = (s : List ℕ) (a b : ℕ) (f : Flaw) (k : ℕ) → verdict s a b ≡ Err (Block f k) ↔ Faulty s f k

-- 13 is given no more.
abbrev pub NoThirteen : Type 0
NoThirteen = (r : Refusal) → (told r).number ≡ 13 → ⊥

-- THE EVENTS

-- With 7 is told the first event that is not valid: a place among the events is told exactly where that one stands.
abbrev pub FirstBad : Type 0
FirstBad =
    (inputs outputs : ℕ) (events : List ℕ) (k : ℕ) → k < length events
    → valid_events inputs outputs events ≡ k
    ↔ ((invalid_at events inputs outputs k ≡ true) × ((j : ℕ) → j < k → invalid_at events inputs outputs j ≡ false))

-- THE READING

-- A file's reading is unique: of one file and two buffers, two readings give one answer and leave the same bytes.
abbrev pub OneReading : Type 0
OneReading =
    (s d e : List ℕ) (r₁ r₂ : Reading) (d₁ d₂ e₁ e₂ : List ℕ) → Answers s d e r₁ d₁ e₁ → Answers s d e r₂ d₂ e₂
    → (r₁ ≡ r₂) × (d₁ ≡ d₂) × (e₁ ≡ e₂)

-- A refused read writes nothing.
abbrev pub NothingWritten : Type 0
NothingWritten = (s d e : List ℕ) (r : Refusal) (d' e' : List ℕ) → Answers s d e (Err r) d' e' → (d' ≡ d) × (e' ≡ e)

-- A buffer d that became d': it starts with the bytes p, n of them, and later bytes keep their values.
pub record Starts (d d' p : List ℕ) (n : ℕ) : Type 0 where
  pub fits : n ≤ length d
  pub start : take n d' ≡ p
  pub later : drop n d' ≡ drop n d

-- What is read from a good file is what the file holds: counts, bounds and source, the rows, and the events.
pub record Held (s d e : List ℕ) (c : Contents) (d' e' : List ℕ) : Type 0 where
  pub contents : c ≡ contents_of s
  pub rows : Starts d d' (rows_of s) c.rows
  pub events : Starts e e' (events_of s) c.events

abbrev pub WhatIsHeld : Type 0
WhatIsHeld = (s d e : List ℕ) (c : Contents) (d' e' : List ℕ) → Answers s d e (Ok c) d' e' → Held s d e c d' e'

-- The rows of a good file: with source 0 they are those of a valid table; with source 1 there are none, and the counts are 64, 16, 16.
abbrev pub GoodRows : Source → ℕ → ℕ → ℕ → List ℕ → Type 0
GoodRows Rows s i o rows = Valid (table_of rows s i o)
GoodRows Standard s i o rows = (s ≡ standard_states) × (i ≡ standard_inputs) × (o ≡ standard_outputs) × (rows ≡ [])

-- Good contents: the rows and the bounds are good; there are at most 4,096 events, and all are valid.
pub record GoodContents (c : Contents) (rows events : List ℕ) : Type 0 where
  pub table : GoodRows c.source c.states c.inputs c.outputs rows
  pub bounds : Bounded c.waiting c.losses
  pub few : length events ≤ most_events
  pub valid : (k : ℕ) → k < length events → symbol_of (get_or events k 0) c.inputs c.outputs ≡ None → ⊥

-- 2, 3, 14, 1, 4, 5, 6, 9 and 7 are given exactly when the contents are not good.
abbrev pub ContentsPass : Type 0
ContentsPass =
    (c : Contents) (rows events : List ℕ) → c.rows ≡ length rows → c.events ≡ length events
    → held_test c rows events ≡ Ok tt ↔ GoodContents c rows events

-- So good contents have at most the rows of the largest table.
abbrev pub RowsFit : Type 0
RowsFit = (c : Contents) (rows events : List ℕ) → GoodContents c rows events → length rows ≤ most_rows

-- A good file: its blocks are good, and so is what they hold.
pub record GoodFile (s : List ℕ) (c : Contents) : Type 0 where
  pub form : GoodForm s
  pub contents : GoodContents c (rows_of s) (events_of s)

-- A file is read exactly when it is good and the buffers have room.
abbrev pub ReadExactly : Type 0
ReadExactly =
    (s : List ℕ) (a b : ℕ)
    → verdict s a b ≡ Ok tt ↔ (GoodFile s (contents_of s) × (length (rows_of s) ≤ a) × (length (events_of s) ≤ b))

-- The numbers of row bytes and of events that a file's contents tell are those that it holds.
abbrev pub CountsHeld : Type 0
CountsHeld = (s : List ℕ) → ((contents_of s).rows ≡ length (rows_of s)) × ((contents_of s).events ≡ length (events_of s))

-- So what was read came from a good file.
abbrev pub WhatIsGood : Type 0
WhatIsGood = (s d e : List ℕ) (c : Contents) (d' e' : List ℕ) → Answers s d e (Ok c) d' e' → GoodFile s c

-- With source 1 the row buffer is untouched.
abbrev pub RowsUntouched : Type 0
RowsUntouched = (s d e : List ℕ) (c : Contents) (d' e' : List ℕ) → Answers s d e (Ok c) d' e' → c.source ≡ Standard → d' ≡ d

-- THE BLOCKS ALONE

-- Of one file and two buffers, two unpackings give one answer and leave the same bytes.
abbrev pub OneUnpacking : Type 0
OneUnpacking =
    (s d e : List ℕ) (r₁ r₂ : Reading) (d₁ d₂ e₁ e₂ : List ℕ) → Unpacks s d e r₁ d₁ e₁ → Unpacks s d e r₂ d₂ e₂
    → (r₁ ≡ r₂) × (d₁ ≡ d₂) × (e₁ ≡ e₂)

-- Where the form is refused, nothing is handed out.
abbrev pub NothingUnpacked : Type 0
NothingUnpacked = (s d e : List ℕ) (r : Refusal) (d' e' : List ℕ) → Unpacks s d e (Err r) d' e' → (d' ≡ d) × (e' ≡ e)

-- Good blocks hold no more bytes of rows, and no more events, than the longest file has bytes.
abbrev pub RoomEnough : Type 0
RoomEnough = (s : List ℕ) → GoodForm s → (length (rows_of s) ≤ most_bytes) × (length (events_of s) ≤ most_bytes)

-- So, with buffers of so many bytes, what is unpacked is what a file of good blocks holds.
abbrev pub WhatIsUnpacked : Type 0
WhatIsUnpacked =
    (s d e : List ℕ) (c : Contents) (d' e' : List ℕ) → most_bytes ≤ length d → most_bytes ≤ length e → Unpacks s d e (Ok c) d' e'
    → GoodForm s × Held s d e c d' e'
