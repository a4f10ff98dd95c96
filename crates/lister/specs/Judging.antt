-- What is listed of a file: why it is refused, or what a run over its trace found. Assumes nothing.
use Rattle.std.specs.Prelude.{◌≡◌, List, ℕ, ◌*◌, ◌≤◌, ◌<◌, length, Option, Ok, Err}
use Rattle.lent.specs.Lent.{front}
use Rattle.table.specs.declared.answer.Refusal.TheVariants.{Buffer}
use Rattle.run.specs.Run.{Runs, RunTo}
use Rattle.run.specs.Ran.{Ran}
use Rattle.standard.specs.Box.{standard_rows}
use Rattle.house.specs.File.{rows_of, events_of, contents_of}
use Rattle.house.specs.Reading.{verdict}
use Rattle.house.specs.declared.answer.Contents.{Contents}
use Rattle.house.specs.declared.answer.Refusal.{Refusal}
use Rattle.house.specs.declared.answer.Refusal.TheVariants.{Content}
use Rattle.house.specs.declared.answer.Source.{Source}
use Rattle.house.specs.declared.answer.Source.TheVariants as source
use Rattle.lister.specs.Judged.{Judged}

-- The most row bytes that a house file gives.
abbrev pub row_room : ℕ
row_room = 2048

-- Source 0 means rows follow; 1 means the standard box.
abbrev pub rows_meant : Source → List ℕ → List ℕ
rows_meant source.Rows rows = rows
rows_meant source.Standard rows = standard_rows

-- How a run over n events ends, as an answer.
abbrev pub judged : ℕ → Ran → Judged
judged n (Ok f) = Ok (n, f)
judged n (Err r) = Err (Content r)

-- A run under the rows, with the counts and bounds of a file's contents.
abbrev pub RunsAs : Contents → List ℕ → List ℕ → List ℕ → Ran → List ℕ → Type 0
RunsAs c rows trace before r after = Runs rows c.states c.inputs c.outputs c.waiting c.losses trace before r after

pub record Follows (c : Contents) (rows trace before : List ℕ) (j : Judged) (after : List ℕ) : Type 0 where
  pub ran : Ran
  pub runs : RunsAs c rows trace before ran after
  pub answer : j ≡ judged c.events ran

-- The run of a file's trace, under its table and bounds.
abbrev pub RunsFile : List ℕ → List ℕ → List ℕ → Option ℕ → Type 0
RunsFile s before after f =
    RunTo (rows_meant (contents_of s).source (rows_of s)) (contents_of s).states (contents_of s).inputs (contents_of s).outputs
    (contents_of s).waiting (contents_of s).losses (events_of s) before after f

-- What is listed of the file s, with buffers e for its events and o for a run's results.
pub data Judges (s e o : List ℕ) : Judged → List ℕ → List ℕ → Type 0 where
  -- a refused file leaves both as they were
  refused : {r : Refusal} → verdict s row_room (length e) ≡ Err r → Judges s e o (Err r) e o
  -- results that have no room
  cramped : verdict s row_room (length e) ≡ Ok tt → length o < 12 * length (events_of s)
      → Judges s e o (Err (Content (Buffer (12 * length (events_of s))))) (front e (events_of s)) o
  -- the file's events, and the results of a run over them
  listed : {f : (Option ℕ)} {o' : List ℕ} → verdict s row_room (length e) ≡ Ok tt → 12 * length (events_of s) ≤ length o → RunsFile s o o' f
      → Judges s e o (Ok (length (events_of s), f)) (front e (events_of s)) o'
