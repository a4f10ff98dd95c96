-- Document 01, "Numbers for what is turned away": the tests of a table, its bounds and a trace, numbers 1 to 7. Assumes nothing.
use Rattle.std.specs.Prelude.{is_none, Bool, true, false, ◌&&◌, List, ℕ, ◌+◌, ◌*◌, ◌/◌, ◌%◌, eqb, leb, length, get_or, Option, Some, None, Ok, Err}
use Rattle.model.specs.Limits.{most_states, most_inputs, most_outputs, most_waiting, most_losses}
use Rattle.model.specs.Table.{Table, width, entry}
use Rattle.table.specs.Bytes.{leads_out, symbol_of}
use Rattle.table.specs.First.{first}
use Rattle.table.specs.declared.answer.Refusal.{Refusal}
use Rattle.table.specs.declared.answer.Refusal.TheVariants.{Rows, States, Symbols, Entry, Waiting, Losses, Event}
use Rattle.table.specs.declared.answer.Symbol.{Symbol}
use Rattle.table.specs.Test.{Test}

-- One test before others: where it fails, its refusal is the answer.
abbrev pub must : Bool → Refusal → Test → Test
must true r others = others
must false r others = Err r

-- n is 1 to limit.
abbrev pub up_to : ℕ → ℕ → Bool
up_to limit n = leb 1 n && leb n limit

-- 2: states not 1..64. 3: inputs or outputs not 1..16; the first wrong count.
unfoldable pub counts_test : ℕ → ℕ → ℕ → Test
counts_test s i o =
    must (up_to most_states s) (States s) (must (up_to most_inputs i) (Symbols i) (must (up_to most_outputs o) (Symbols o) (Ok tt)))

-- 1: rows are not states × (inputs + outputs) bytes.
unfoldable pub length_test : ℕ → ℕ → ℕ → ℕ → Test
length_test n s i o = must (eqb n (s * (i + o))) (Rows n) (Ok tt)

-- Reading row by row, entry k stands in this row and column.
abbrev pub row : Table → ℕ → ℕ
row T k = k / width T

abbrev pub column : Table → ℕ → ℕ
column T k = k % width T

-- An entry is neither 255 nor below states.
unfoldable pub bad : Table → ℕ → Bool
bad T k = leads_out T.states ((entry T (row T k) (column T k)))

-- 4: the first row and column, reading row by row.
abbrev pub unless_bad : Table → Option ℕ → Test
unless_bad T None = Ok tt
unless_bad T (Some k) = Err (Entry (row T k) (column T k))

unfoldable pub entries_test : Table → Test
entries_test T = unless_bad T (first (bad T) (T.states * width T))

-- 5: B not 1..32. 6: c not 1..8.
unfoldable pub bounds_test : ℕ → ℕ → Test
bounds_test B c = must (up_to most_waiting B) (Waiting B) (must (up_to most_losses c) (Losses c) (Ok tt))

-- 7: an event byte is not valid; the index of the first.
abbrev pub is_invalid : Option Symbol → Bool
is_invalid s = is_none s

abbrev pub invalid_at : List ℕ → ℕ → ℕ → ℕ → Bool
invalid_at trace inputs outputs k = is_invalid (symbol_of (get_or trace k 0) inputs outputs)

abbrev pub unless_invalid : Option ℕ → Test
unless_invalid None = Ok tt
unless_invalid (Some k) = Err (Event k)

unfoldable pub events_test : List ℕ → ℕ → ℕ → Test
events_test trace inputs outputs = unless_invalid (first (invalid_at trace inputs outputs) (length trace))
