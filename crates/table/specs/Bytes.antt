-- Document 01: what an event byte and a byte of a row say, as this crate answers it. Assumes nothing.
use Rattle.std.specs.Prelude.{List, Bool, false, cond, ◌&&◌, ℕ, ltb, leb, Option, Some, None}
use Rattle.model.specs.Limits.{most_inputs, most_outputs}
use Rattle.model.specs.Table.{Table, entry}
use Rattle.model.specs.Model as model
use Rattle.table.specs.declared.answer.Symbol.{Symbol}
use Rattle.table.specs.declared.answer.Symbol.TheVariants.{Input, Output}

-- EVENT BYTES

-- An event is valid if a is below the table's count of that direction. No count is above its limit, so no symbol is either.
abbrev pub symbol : model.Event → ℕ → ℕ → Option Symbol
symbol (model.input a) inputs outputs = cond (ltb a most_inputs && ltb a inputs) (Some (Input a)) None
symbol (model.output a) inputs outputs = cond (ltb a most_outputs && ltb a outputs) (Some (Output a)) None

-- Input a is byte a. Output a is 128 + a. All other bytes are refused.
unfoldable pub symbol_of : ℕ → ℕ → ℕ → Option Symbol
symbol_of b inputs outputs = symbol (model.event b) inputs outputs

-- ENTRIES

-- The table of these counts and rows.
abbrev pub table_of : List ℕ → ℕ → ℕ → ℕ → Table
table_of rows s i o = record { states = s; inputs = i; outputs = o; rows = rows }

-- A next state, or "not allowed here": what the entry in column k of row s says. It does not depend on the count of states: any would do for the 0.
unfoldable pub next_of : List ℕ → ℕ → ℕ → ℕ → ℕ → Option ℕ
next_of rows inputs outputs s k = entry (table_of rows 0 inputs outputs) s k

-- An entry is a next state that is not below states.
abbrev pub leads_out : ℕ → Option ℕ → Bool
leads_out states (Some t) = leb states t
leads_out states None = false
