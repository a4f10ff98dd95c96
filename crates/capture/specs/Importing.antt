-- Request L1: what a whole import answers, and what it leaves in the buffer. Assumes nothing.
use Rattle.std.specs.Prelude.{◌≡◌, Bool, not, Option, List, ℕ, eqb, leb, length, Ok, Err}
use Rattle.std.specs.List.{range_with_len, position}
use Rattle.std.specs.Option.{unwrap_or}
use Rattle.lent.specs.Lent.{front}
use Rattle.model.specs.Limits.{most_events}
use Rattle.capture.specs.Capture.{headed, records, right_at, layout_at, events_of}
use Rattle.capture.specs.declared.answer.Refusal.TheVariants as refusal
use Rattle.capture.specs.Answers.{Imported, must}

-- The first of the numbers below n that fails a test.
abbrev pub first_failing : (ℕ → Bool) → ℕ → Option ℕ
first_failing test n = position (λ k. not (test k)) (range_with_len 0 n)

-- How many records come before the first that fails a test; all of them, if there is none.
unfoldable pub passing : (ℕ → Bool) → ℕ → ℕ
passing test n = unwrap_or (first_failing test n) n

abbrev pub right_records : List ℕ → ℕ
right_records s = passing (right_at s) (records s)

abbrev pub layout_records : List ℕ → ℕ
layout_records s = passing (layout_at s) (records s)

-- Refusals: 15, then 16 the first record short or with another length, then 9 above 1,048,576 records, 7, and 10 with the length needed.
unfoldable pub verdict : Bool → ℕ → ℕ → ℕ → ℕ → Imported
verdict head n right layout room =
    must head refusal.Header
    (must (eqb right n) (refusal.Record right)
    (must (leb n most_events) (refusal.Events n)
    (must (eqb layout n) (refusal.Event layout)
    (must (leb n room) (refusal.Buffer n) (Ok n)))))

unfoldable pub imported : List ℕ → ℕ → Imported
imported s room = verdict (headed s) (records s) (right_records s) (layout_records s) room

-- A whole import writes one byte a record and keeps later bytes; a refused one writes nothing.
abbrev pub after : Imported → List ℕ → List ℕ → List ℕ
after (Ok n) d p = front d p
after (Err r) d p = d

-- The import of the capture s into the buffer d: the answer, and the buffer afterwards.
pub record Imports (s d : List ℕ) (r : Imported) (d' : List ℕ) : Type 0 where
  pub answer : r ≡ imported s (length d)
  pub events : d' ≡ after r d (events_of s)
