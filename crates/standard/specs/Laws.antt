-- What is shown of the standard box, each under one sentence: callers go by these. proofs/Laws.antt proves them all. Assumes nothing.
use Rattle.std.specs.Prelude.{◌≡◌, true, ◌↔◌, ℕ, ◌+◌, ◌-◌, ◌%◌, ◌≤◌, ◌<◌, length, Option, Some, None, Ok}
use mathlib.Core.List.{List, [], ◌∷◌, Memᴰ as In}
use Rattle.model.specs.Table.{entry, Valid}
use Rattle.model.specs.Model.{box, Event, input, output}
use Rattle.table.specs.Tests.{counts_test, length_test, entries_test}
use Rattle.standard.specs.Rule.{states, inputs, outputs, numbers, most_unreported, state, after_input, after_output, rule}
use Rattle.standard.specs.Box.{columns, standard_rows, standard_table, standard_counts}

-- The rule is shown over the whole of the rows: the entry in each row and column is what the rule says.
abbrev pub EveryEntry : Type 0
EveryEntry = (s k : ℕ) → s < states → k < columns → entry standard_table s k ≡ rule s k

-- In state e + 16p the box takes input a, and sends output b, as the rule says of e and p.
pub record Follows (e p : ℕ) : Type 0 where
  pub input : (a : ℕ) → a < inputs → (box standard_table).taken (state e p) a ≡ after_input e p a
  pub output : (b : ℕ) → b < outputs → (box standard_table).sent (state e p) b ≡ after_output e p b

abbrev pub EveryState : Type 0
EveryState = (e p : ℕ) → e < numbers → p ≤ most_unreported → Follows e p

-- Document 02: in row e, with nothing unreported, input (e − 1) modulo 16 gives e + 16, for row 0 too; and there the box sends that report.
pub record Repeats (e a : ℕ) : Type 0 where
  pub asked : (box standard_table).taken e a ≡ Some (e + numbers)
  pub sent : (box standard_table).sent (e + numbers) a ≡ Some e

abbrev pub EveryReport : Type 0
EveryReport = (e : ℕ) → e < numbers → Repeats e ((e + numbers - 1) % numbers)

-- Its table is valid,
abbrev pub IsValid : Type 0
IsValid = Valid standard_table

-- so an opening turns it away neither for its counts, nor for its length, nor for an entry.
pub record Passes : Type 0 where
  pub counts : counts_test states inputs outputs ≡ Ok tt
  pub length : length_test (length standard_rows) states inputs outputs ≡ Ok tt
  pub entries : entries_test standard_table ≡ Ok tt

-- The counts are tested as 64, 16, 16.
abbrev pub OnlyCounts : Type 0
OnlyCounts = (s i o : ℕ) → standard_counts s i o ≡ true ↔ ((s ≡ states) × (i ≡ inputs) × (o ≡ outputs))

-- An entry that the documents cite: its row, the input or output of its column, and its next state, or none where it is 255.
pub record Citation : Type 0 where
  pub row : ℕ
  pub symbol : Event
  pub next : Option ℕ

abbrev cite : ℕ → Event → Option ℕ → Citation
cite s e t = record { row = s; symbol = e; next = t }

-- Row 0, input 0 gives 17; row 17, output 0 gives 1; row 1, input 0 becomes 17 (document 02; it was 1); row 48, output 13 gives 32; row 48,
-- input 0 is 255; row 48, input 5 gives 48.
unfoldable pub cited : List Citation
cited =
    cite 0 (input 0) (Some 17)
    ∷ cite 17 (output 0) (Some 1)
    ∷ cite 1 (input 0) (Some 17)
    ∷ cite 48 (output 13) (Some 32)
    ∷ cite 48 (input 0) None
    ∷ cite 48 (input 5) (Some 48)
    ∷ []

-- A row has a column for each input, then one for each output.
abbrev pub column : Event → ℕ
column (input a) = a
column (output b) = inputs + b

abbrev pub CitedHold : Type 0
CitedHold = (x : Citation) → In x cited → entry standard_table x.row (column x.symbol) ≡ x.next
