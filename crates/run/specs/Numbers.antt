-- Document 01, "Numbers for what is turned away", of a whole run: which number is told when, in the document's order, as opening, then 9,
-- 7, 10, and with which places. proofs/Numbers.antt proves the laws. Assumes nothing.
use Rattle.std.specs.Prelude.{◌≡◌, List, [], ◌∷◌, ◌++◌, ◌↔◌, ℕ, ◌*◌, ◌≤◌, ◌<◌, length}
use Rattle.model.specs.Limits.{most_events}
use Rattle.model.specs.Table.{Table, Valid, Bounded}
use Rattle.table.specs.Bytes.{table_of}
use Rattle.table.specs.Numbers.{Tells, Alone, Among, FirstNotValid, AllValid}
use Rattle.table.specs.Test.{Test, test_of}
use Rattle.session.specs.Numbers.{TellsOpening, opening_numbers}
use Rattle.run.specs.Ran.{Ran}
use Rattle.run.specs.Run.{run_test, Runs}

-- What the test t of a run tells of the table T, the bounds B and c, the trace, and a result buffer of length room:
pub record TellsRun (T : Table) (B c : ℕ) (trace : List ℕ) (room : ℕ) (t : Test) : Type 0 where
  -- Whole run: as opening,
  pub opening : TellsOpening T B c t
  -- 9 | events past the limit (session or run 1,048,576) | the count
  pub events : (p q : ℕ) → Tells t 9 p q ↔ (Valid T × Bounded B c × (most_events < length trace) × Alone (length trace) p q)
  -- 7 | event byte not valid | event index
  pub event : (p q : ℕ) → Tells t 7 p q
      ↔ (Valid T × Bounded B c × (length trace ≤ most_events) × FirstNotValid trace T.inputs T.outputs p × (q ≡ 0))
  -- 10 | run: result buffer shorter than 12 × events | needed length
  pub buffer : (p q : ℕ) → Tells t 10 p q
      ↔ (Valid T × Bounded B c × (length trace ≤ most_events) × AllValid trace T.inputs T.outputs
      × (room < 12 * length trace) × Alone (12 * length trace) p q)
  -- then 9, 7, 10, and no other number.
  pub among : Among (opening_numbers ++ (9 ∷ 7 ∷ 10 ∷ [])) t

abbrev pub RunTells : Type 0
RunTells =
    (rows : List ℕ) (s i o B c : ℕ) (trace : List ℕ) (room : ℕ)
    → TellsRun (table_of rows s i o) B c trace room (run_test rows s i o B c trace room)

-- The test of a run's answer is this one.
abbrev pub RanTest : Type 0
RanTest =
    (rows : List ℕ) (s i o B c : ℕ) (trace before : List ℕ) (r : Ran) (after : List ℕ) → Runs rows s i o B c trace before r after
    → test_of r ≡ run_test rows s i o B c trace (length before)
