-- Request L1: the number of each refusal of a capture and the place told with it, and what else each answer tells, 0 where it tells
-- nothing. Assumes nothing.
use Rattle.std.specs.Prelude.{ℕ, Some, None, Ok, Err}
use Rattle.table.specs.Refusals.{told_at, told_by}
use Rattle.table.specs.declared.answer.Told.{Told}
use Rattle.capture.specs.declared.answer.Refusal.{Refusal}
use Rattle.capture.specs.declared.answer.Refusal.TheVariants.{Header, Record, Events, Event, Buffer}
use Rattle.capture.specs.Answers.{Imported, Taken}

-- 15 header short or wrong (place 0), then 16 the first record short or with another length (record index), then 9 above 1,048,576
-- records, 7, and 10 with the length needed.
unfoldable pub told : Refusal → Told
told Header = told_at 15 0
told (Record index) = told_at 16 index
told (Events count) = told_at 9 count
told (Event index) = told_at 7 index
told (Buffer needed) = told_at 10 needed

-- The reader: an event and the end have no number.
abbrev pub told_taken : Taken → Told
told_taken taken = told_by told taken

-- The event byte that it hands out.
abbrev pub event_taken : Taken → ℕ
event_taken (Ok (Some byte)) = byte
event_taken (Ok None) = 0
event_taken (Err r) = 0

-- The import: what is not refused has no number.
abbrev pub told_imported : Imported → Told
told_imported imported = told_by told imported

-- How many events it wrote.
abbrev pub count_imported : Imported → ℕ
count_imported (Ok count) = count
count_imported (Err r) = 0
