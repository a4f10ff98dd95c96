-- A house file with the check of block 0 put right: the answer, and what it leaves in the buffer. Assumes nothing.
use Rattle.std.specs.Prelude.{◌≡◌, true, false, List, ◌++◌, ℕ, leb, length, take, drop, Ok, Err}
use Rattle.lent.specs.Lent.{front}
use Rattle.table.specs.declared.answer.Refusal.TheVariants.{Buffer}
use Rattle.block.specs.Limits.{block_size, check_at}
use Rattle.block.specs.Block.{check}
use Rattle.house.specs.Reading.{is_whole}
use Rattle.house.specs.declared.answer.Refusal.TheVariants.{Length, Content}
use Rattle.writer.specs.Layout.{spelling}
use Rattle.writer.specs.Answer.{Writing}

-- The file s with the check of its bytes 0 to 509 in bytes 510 and 511, low byte first; every other byte stays.
unfoldable pub mended : List ℕ → List ℕ
mended s = take check_at s ++ spelling (check s) ++ drop block_size s

-- The file s mended into the buffer o. Of the file nothing but its length is tested.
pub data Mends (s o : List ℕ) : Writing → List ℕ → Type 0 where
  -- 11: file empty, not whole blocks, or over 7,680 bytes; the buffer is as it was
  broken : is_whole (length s) ≡ false → Mends s o (Err (Length (length s))) o
  -- then 10: buffer too short; needed length
  short : is_whole (length s) ≡ true → leb (length s) (length o) ≡ false → Mends s o (Err (Content (Buffer (length s)))) o
  -- else the file is at the start of the buffer, and later bytes keep their values
  mends : is_whole (length s) ≡ true → leb (length s) (length o) ≡ true → Mends s o (Ok (length s)) (front o (mended s))
