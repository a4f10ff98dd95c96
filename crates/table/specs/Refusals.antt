-- Document 01, "Numbers for what is turned away": the number of each refusal, and the places told with it. Assumes nothing.
use Rattle.std.specs.Prelude.{ℕ, Result, Ok, Err}
use Rattle.table.specs.declared.answer.Refusal.{Refusal}
use Rattle.table.specs.declared.answer.Refusal.TheVariants.{Rows, States, Symbols, Entry, Waiting, Losses, Event, Unsound, Events, Buffer}
use Rattle.table.specs.declared.answer.Told.{Told}

-- A number with its place. Places not used or not named are 0.
abbrev pub told_at : ℕ → ℕ → Told
told_at n p = record { number = n; place = p; second = 0 }

-- Row by row of the document's table.
unfoldable pub told : Refusal → Told
told (Rows length) = told_at 1 length
told (States count) = told_at 2 count
told (Symbols count) = told_at 3 count
told (Entry row column) = record { number = 4; place = row; second = column }
told (Waiting B) = told_at 5 B
told (Losses c) = told_at 6 c
told (Event index) = told_at 7 index
told Unsound = told_at 8 0
told (Events count) = told_at 9 count
told (Buffer needed) = told_at 10 needed

-- What an answer tells: nothing, unless it is a refusal. Then what tells refusals of its kind tells.
abbrev pub told_by : {A R : Type 0} → (R → Told) → Result A R → Told
told_by tells (Ok a) = told_at 0 0
told_by tells (Err r) = tells r
