-- Request L1: what the reader answers at a place of a capture, and where it stands then. Assumes nothing.
use Rattle.std.specs.Prelude.{Bool, cond, List, ℕ, ◌+◌, eqb, ltb, length, Some, None, Ok, Err}
use Rattle.model.specs.Limits.{most_events}
use Rattle.capture.specs.Capture.{headed, record_at, right_at, octet_at, layout_at}
use Rattle.capture.specs.declared.answer.Refusal.TheVariants as refusal
use Rattle.capture.specs.declared.answer.Handed.{Handed}
use Rattle.capture.specs.Answers.{Taken, must}

-- At its record 16, 9 (place the index plus one) and 7; and else it hands out the octet.
unfoldable pub tested : Bool → Bool → Bool → ℕ → ℕ → Taken
tested right few layout i byte =
    must right (refusal.Record i) (must few (refusal.Events (i + 1)) (must layout (refusal.Event i) (Ok (Some byte))))

-- Each call tests 15, then at its record 16, 9 and 7. Past the last byte it reports the end.
unfoldable pub taken_at : List ℕ → ℕ → Taken
taken_at s i =
    must (headed s) refusal.Header
    (cond (eqb (length (record_at s i)) 0) (Ok None) (tested (right_at s i) (ltb i most_events) (layout_at s i) i (octet_at s i)))

-- The reader's place is the next record's index: an event is passed. The end stays the end, and a refusal leaves it there.
abbrev pub place_after : Taken → ℕ → ℕ
place_after (Ok (Some byte)) i = i + 1
place_after (Ok None) i = i
place_after (Err r) i = i

-- What it hands out, and its place then.
abbrev pub handed : Taken → ℕ → Handed
handed t i = record { taken = t; place = i }

abbrev pub handed_at : List ℕ → ℕ → Handed
handed_at s i = handed (taken_at s i) (place_after (taken_at s i) i)
