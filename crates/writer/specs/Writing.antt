-- Document 02, L3: what writing a file answers, and what it leaves in the buffer. What the bytes of a file mean is the reader's
-- definition (crate `house`, specs/File.antt); there is no other here. Assumes nothing.
use Rattle.std.specs.Prelude.{◌≡◌, List, [], ◌∷◌, ℕ, ◌+◌, ◌*◌, ◌-◌, ◌/◌, ◌≤◌, ◌<◌, leb, length, take, drop, Ok, Err}
use Rattle.table.specs.declared.answer.Refusal.TheVariants.{Buffer}
use Rattle.block.specs.Limits.{block_size, room, check_at}
use Rattle.block.specs.Block.{byte}
use Rattle.house.specs.Verdicts.{must, first_of}
use Rattle.house.specs.File.{block_at, blocks, GoodForm, rows_of, events_of, contents_of}
use Rattle.house.specs.Reading.{held_test}
use Rattle.house.specs.declared.answer.Contents.{Contents}
use Rattle.house.specs.declared.answer.Refusal.TheVariants.{Content}
use Rattle.house.specs.Verdict.{Verdict}
use Rattle.writer.specs.Answer.{Writing}

-- HOW LONG THE FILE IS

-- The blocks that n bytes of one kind take: full ones, and one for what is left.
abbrev pub blocks_for : ℕ → ℕ
blocks_for n = (n + (room - 1)) / room

-- The length needed: one block for the setup, then those of the rows and those of the events.
abbrev pub needed : Contents → ℕ
needed c = block_size * (1 + blocks_for c.rows + blocks_for c.events)

-- THE TESTS

-- The reader's content numbers in its order: 2, 3, 14, 1, 4, 5, 6, 9, 7; then 10 with the length needed.
unfoldable pub write_test : Contents → List ℕ → List ℕ → ℕ → Verdict
write_test c rows trace space =
    first_of (held_test c rows trace ∷ must (leb (needed c) space) (Content (Buffer (needed c))) ∷ [])

-- How many bytes were written, or why none.
abbrev pub answer : Verdict → Contents → Writing
answer (Ok _) c = Ok (needed c)
answer (Err r) c = Err r

-- THE FILE

-- Each number of two bytes in a block has a low byte below 256: its bytes are those of the number, and no others.
pub record Spelt (b : List ℕ) : Type 0 where
  pub number_low : byte b 2 < 256
  pub used_low : byte b 4 < 256
  pub check_low : byte b check_at < 256

-- The file that holds these contents, rows and events, as the reader reads it.
pub record IsFile (f : List ℕ) (c : Contents) (rows trace : List ℕ) : Type 0 where
  pub form : GoodForm f
  pub spelt : (k : ℕ) → k < blocks f → Spelt (block_at f k)
  pub contents : contents_of f ≡ c
  pub rows_held : rows_of f ≡ rows
  pub events_held : events_of f ≡ trace

-- THE BUFFER

-- A buffer o that became o': its first n bytes are the file; later bytes keep their values.
pub record Holds (c : Contents) (rows trace o : List ℕ) (n : ℕ) (o' : List ℕ) : Type 0 where
  pub fits : n ≤ length o
  pub file : IsFile (take n o') c rows trace
  pub later : drop n o' ≡ drop n o

-- A refused write writes nothing.
abbrev pub Left : Writing → Contents → List ℕ → List ℕ → List ℕ → List ℕ → Type 0
Left (Ok n) c rows trace o o' = Holds c rows trace o n o'
Left (Err r) c rows trace o o' = o' ≡ o

-- Writing these contents, rows and events into the buffer o: the answer, and the buffer afterwards.
pub record Writes (c : Contents) (rows trace o : List ℕ) (w : Writing) (o' : List ℕ) : Type 0 where
  pub answer : w ≡ answer (write_test c rows trace (length o)) c
  pub left : Left w c rows trace o o'
