-- Document 01, "The house file": the blocks of a file, and what they hold. A file is a list of bytes. Assumes nothing.
use Rattle.std.specs.Prelude.{◌≡◌, cond, List, [], ◌++◌, ℕ, zero, suc, ◌+◌, ◌*◌, ◌/◌, ◌<◌, eqb, length, take, drop}
use Rattle.model.specs.Limits.{UpTo}
use Rattle.block.specs.Limits.{block_size, payload_at, row_kind, event_kind}
use Rattle.block.specs.Block.{byte, share, GoodBlock}
use Rattle.house.specs.Limits.{most_blocks}
use Rattle.house.specs.declared.answer.Source.{Source}
use Rattle.house.specs.declared.answer.Source.TheVariants.{Rows, Standard}
use Rattle.house.specs.declared.answer.Contents.{Contents}

-- Block k, counted from 0.
abbrev pub block_at : List ℕ → ℕ → List ℕ
block_at s k = take block_size (drop (block_size * k) s)

abbrev pub blocks : List ℕ → ℕ
blocks s = length s / block_size

-- The block before block k; before block 0 stands nothing.
abbrev pub block_before : List ℕ → ℕ → List ℕ
block_before s zero = []
block_before s (suc k) = block_at s k

-- A file of good blocks: 1 to 15 of them, and whole.
pub record GoodForm (s : List ℕ) : Type 0 where
  pub counted : UpTo most_blocks (blocks s)
  pub whole : length s ≡ block_size * blocks s
  pub good : (k : ℕ) → k < blocks s → GoodBlock (block_at s k) k (block_before s k)

-- The payloads of the blocks of kind q among the first k, one after another.
unfoldable pub joined : ℕ → List ℕ → ℕ → List ℕ
joined q s zero = []
joined q s (suc k) = joined q s k ++ share q (block_at s k)

-- Rows, one after another, and events.
abbrev pub rows_of : List ℕ → List ℕ
rows_of s = joined row_kind s (blocks s)

abbrev pub events_of : List ℕ → List ℕ
events_of s = joined event_kind s (blocks s)

-- Source 0 means rows follow; 1 means the standard box.
abbrev pub source_of : ℕ → Source
source_of x = cond (eqb x 0) Rows Standard

abbrev pub source_byte : Source → ℕ
source_byte Rows = 0
source_byte Standard = 1

-- Block 0 starts the file, and its payload is: states, inputs, outputs, B, c, source.
abbrev pub setup : List ℕ → ℕ → ℕ
setup s i = byte s (payload_at + i)

unfoldable pub contents_of : List ℕ → Contents
contents_of s =
    record {
      states = setup s 0;
      inputs = setup s 1;
      outputs = setup s 2;
      waiting = setup s 3;
      losses = setup s 4;
      source = source_of (setup s 5);
      rows = length (rows_of s);
      events = length (events_of s);
    }
