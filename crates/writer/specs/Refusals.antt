-- The number of each refusal of a write and the places told with it, and what is told besides. Assumes nothing.
use Rattle.std.specs.Prelude.{ℕ, Ok, Err}
use Rattle.table.specs.Refusals.{told_by}
use Rattle.table.specs.declared.answer.Told.{Told}
use Rattle.house.specs.Refusals.{told}
use Rattle.writer.specs.Answer.{Writing}

-- A file that was written has no number.
abbrev pub told_of : Writing → Told
told_of writing = told_by told writing

-- The length of the file; of a refused write it is 0.
abbrev pub length_of : Writing → ℕ
length_of (Ok n) = n
length_of (Err r) = 0
