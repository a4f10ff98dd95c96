-- A house file made from another, with other bounds or with another trace: the answer, and what it leaves in the buffer. Assumes nothing.
use Rattle.std.specs.Prelude.{◌≡◌, List, ℕ, ◌+◌, ◌*◌, length, Ok, Err}
use Rattle.block.specs.Limits.{block_size, payload_at, check_at}
use Rattle.house.specs.File.{rows_of, events_of, contents_of}
use Rattle.house.specs.Reading.{given, form_test, verdict}
use Rattle.house.specs.declared.answer.Contents.{Contents}
use Rattle.house.specs.declared.answer.Refusal.{Refusal}
use Rattle.house.specs.Verdict.{Verdict}
use Rattle.writer.specs.Writing.{blocks_for, Writes}
use Rattle.writer.specs.Answer.{Writing}

-- The rooms that a file is read into: the most row bytes, and the most events, that a good file gives.
abbrev pub row_room : ℕ
row_room = 2048

abbrev pub event_room : ℕ
event_room = 4096

-- What is to be written: the counts, the source and the rows of the file s, with these bounds and this trace.
abbrev pub changed : List ℕ → ℕ → ℕ → List ℕ → Contents
changed s waiting losses trace =
    given (contents_of s).source (contents_of s).states (contents_of s).inputs (contents_of s).outputs waiting losses (rows_of s) trace

-- The file s, on which the verdict is v, with these bounds and this trace, written into the buffer o.
pub data Remakes (v : Verdict) (s : List ℕ) (waiting losses : ℕ) (trace o : List ℕ) : Writing → List ℕ → Type 0 where
  -- where the file is refused, that is the answer, and the buffer is as it was
  refused : {r : Refusal} → v ≡ Err r → Remakes v s waiting losses trace o (Err r) o
  -- else the writer answers
  written : {w : Writing} {o' : List ℕ} → v ≡ Ok tt → Writes (changed s waiting losses trace) (rows_of s) trace o w o'
      → Remakes v s waiting losses trace o w o'

-- With these bounds in place of its own, which are not looked at: the file's form is tested, and then what is to be written.
abbrev pub Rebinds : List ℕ → ℕ → ℕ → List ℕ → Writing → List ℕ → Type 0
Rebinds s waiting losses o w o' = Remakes (form_test s) s waiting losses (events_of s) o w o'

-- Where the bounds stand: B and c are bytes 9 and 10 of block 0, with which a file starts; its check is bytes 510 and 511.
abbrev pub waiting_at : ℕ
waiting_at = payload_at + 3

abbrev pub losses_at : ℕ
losses_at = payload_at + 4

-- Every byte but those two and the check of block 0.
pub record Elsewhere (i : ℕ) : Type 0 where
  pub not_waiting : i ≡ waiting_at → ⊥
  pub not_losses : i ≡ losses_at → ⊥
  pub not_check_low : i ≡ check_at → ⊥
  pub not_check_high : i ≡ check_at + 1 → ⊥

-- With this trace in place of its own: the reader answers for the whole file first.
abbrev pub Retraces : List ℕ → List ℕ → List ℕ → Writing → List ℕ → Type 0
Retraces s trace o w o' = Remakes (verdict s row_room event_room) s (contents_of s).waiting (contents_of s).losses trace o w o'

-- Where the rows end: behind block 0 and their own blocks.
abbrev pub rows_end : List ℕ → ℕ
rows_end rows = block_size * (1 + blocks_for (length rows))
