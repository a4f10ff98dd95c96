-- What is shown of the tests and of the bytes, each under one sentence: callers go by these, and not by the text of the definitions.
-- proofs/Laws.antt proves them all. Assumes nothing.
use Rattle.std.specs.Prelude.{◌≡◌, Bool, true, false, List, ◌↔◌, ◌⊎◌, ℕ, ◌+◌, ◌*◌, ◌≤◌, ◌<◌, length, Option, Some, None, Ok, Err}
use Rattle.model.specs.Limits.{most_states, most_inputs, most_outputs, UpTo}
use Rattle.model.specs.Table.{Table, width, entry, Valid, Bounded}
use Rattle.model.specs.Model.{event, input, output}
use Rattle.table.specs.Bytes.{symbol_of, next_of}
use Rattle.table.specs.First.{first}
use Rattle.table.specs.Tests.{must, counts_test, length_test, entries_test, bounds_test, invalid_at, events_test}
use Rattle.table.specs.declared.answer.Symbol.{Symbol}
use Rattle.table.specs.declared.answer.Symbol.TheVariants.{Input, Output}
use Rattle.table.specs.Refusals.{told_at, told}
use Rattle.table.specs.declared.answer.Refusal.{Refusal}
use Rattle.table.specs.declared.answer.Refusal.TheVariants.{Entry, Event}
use Rattle.table.specs.Test.{Test}

-- THE FIRST

-- None is found exactly when every number below n fails the test.
abbrev pub FoundNone : Type 0
FoundNone = (p : ℕ → Bool) (n : ℕ) → first p n ≡ None ↔ ((k : ℕ) → k < n → p k ≡ false)

-- k is found exactly when it is below n and passes, and every number below k fails.
abbrev pub FoundFirst : Type 0
FoundFirst =
    (p : ℕ → Bool) (n k : ℕ) → first p n ≡ Some k ↔ ((k < n) × (p k ≡ true) × ((j : ℕ) → j < k → p j ≡ false))

-- THE TESTS

-- One test before others passes exactly when it holds and the others pass.
abbrev pub MustPasses : Type 0
MustPasses = (b : Bool) (r : Refusal) (t : Test) → must b r t ≡ Ok tt ↔ ((b ≡ true) × (t ≡ Ok tt))

-- 2 and 3 are given exactly when a count is not within its limit.
abbrev pub CountsPass : Type 0
CountsPass = (s i o : ℕ) → counts_test s i o ≡ Ok tt ↔ (UpTo most_states s × UpTo most_inputs i × UpTo most_outputs o)

-- 1 is given exactly when rows are not states × (inputs + outputs) bytes.
abbrev pub LengthPasses : Type 0
LengthPasses = (n s i o : ℕ) → length_test n s i o ≡ Ok tt ↔ (n ≡ s * (i + o))

-- 4 is given exactly when an entry is neither 255 nor below states.
abbrev pub EntriesPass : Type 0
EntriesPass =
    (T : Table)
    → entries_test T ≡ Ok tt ↔ ((s k s' : ℕ) → s < T.states → k < width T → entry T s k ≡ Some s' → s' < T.states)

-- Such an entry, in row s and column k.
pub record Bad (T : Table) (s k : ℕ) : Type 0 where
  pub row : s < T.states
  pub column : k < width T
  pub next : ℕ
  pub leads : entry T s k ≡ Some next
  pub out : T.states ≤ next

-- Reading row by row, row s and column k come before row s' and column k'.
abbrev pub Before : ℕ → ℕ → ℕ → ℕ → Type 0
Before s k s' k' = (s < s') ⊎ ((s ≡ s') × (k < k'))

-- The first row and column, reading row by row.
abbrev pub FirstBad : Table → ℕ → ℕ → Type 0
FirstBad T s k = Bad T s k × ((s' k' : ℕ) → Bad T s' k' → Before s' k' s k → ⊥)

-- With 4 are told the first row and column, reading row by row.
abbrev pub FirstTold : Type 0
FirstTold = (T : Table) (s k : ℕ) → entries_test T ≡ Err (Entry s k) ↔ FirstBad T s k

-- A table passes these three tests exactly when it is valid.
abbrev pub TablePasses : Type 0
TablePasses =
    (T : Table)
    → ((counts_test T.states T.inputs T.outputs ≡ Ok tt)
    × (length_test (length T.rows) T.states T.inputs T.outputs ≡ Ok tt)
    × (entries_test T ≡ Ok tt))
    ↔ Valid T

-- 5 and 6 are given exactly when a bound is not within its limit.
abbrev pub BoundsPass : Type 0
BoundsPass = (B c : ℕ) → bounds_test B c ≡ Ok tt ↔ Bounded B c

-- 7 is given exactly when an event byte is not valid.
abbrev pub EventsPass : Type 0
EventsPass =
    (trace : List ℕ) (i o : ℕ) → events_test trace i o ≡ Ok tt ↔ ((k : ℕ) → k < length trace → invalid_at trace i o k ≡ false)

-- With 7 is told the first that is not valid.
abbrev pub FirstInvalid : Type 0
FirstInvalid =
    (trace : List ℕ) (i o k : ℕ)
    → events_test trace i o ≡ Err (Event k)
    ↔ ((k < length trace) × (invalid_at trace i o k ≡ true) × ((j : ℕ) → j < k → invalid_at trace i o j ≡ false))

-- THE BYTES

-- What each symbol says of its byte b, under counts of i inputs and o outputs.
abbrev pub Means : ℕ → ℕ → ℕ → Option Symbol → Type 0
-- Input a is byte a, and valid if a is below the table's count.
Means b i o (Some (Input a)) = (a ≡ b) × (a < i) × (event b ≡ input a)
-- Output a is 128 + a, likewise.
Means b i o (Some (Output a)) = (128 + a ≡ b) × (a < o) × (event b ≡ output a)
-- All other bytes are refused.
Means b i o None = ((a : ℕ) → event b ≡ input a → a < i → ⊥) × ((a : ℕ) → event b ≡ output a → a < o → ⊥)

abbrev pub SymbolMeans : Type 0
SymbolMeans = (b i o : ℕ) (x : Option Symbol) → i ≤ most_inputs → o ≤ most_outputs → symbol_of b i o ≡ x ↔ Means b i o x

-- A symbol that is given means that under any counts.
abbrev pub GivenMeans : Type 0
GivenMeans =
    (b i o a : ℕ)
    → (symbol_of b i o ≡ Some (Input a) → Means b i o (Some (Input a))) × (symbol_of b i o ≡ Some (Output a) → Means b i o (Some (Output a)))

-- A next state is looked up exactly where the entry gives it, and none exactly where the entry gives none.
abbrev pub NextMeans : Type 0
NextMeans =
    (T : Table) (s k : ℕ)
    → ((t : ℕ) → next_of T.rows T.inputs T.outputs s k ≡ Some t ↔ (entry T s k ≡ Some t))
    × (next_of T.rows T.inputs T.outputs s k ≡ None ↔ (entry T s k ≡ None))

-- THE REFUSALS

-- With 7 is told the event index.
abbrev pub EventTold : Type 0
EventTold = (index : ℕ) → told (Event index) ≡ told_at 7 index
