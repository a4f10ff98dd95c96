use Rattle.std.specs.Prelude.{None, Ok}
use Rattle.std.proofs.Common.{◌≡◌, List, ℕ, ◌+◌, ◌*◌}
use Rattle.table.specs.Bytes.{table_of}
use Rattle.table.specs.First.{first}
use Rattle.table.specs.Tests.{bad}
use Rattle.table.proofs.entries.Given as goal

-- none of the first n entries is bad
abbrev pub Clean : List ℕ → ℕ → ℕ → ℕ → ℕ → Type 0
Clean rows s i o n = first (bad (table_of rows s i o)) n ≡ None

abbrev pub invariant-loop-column : goal.invariant-loop-column
invariant-loop-column l = (l.found ≡ Ok tt) × Clean l.rows l.states l.inputs l.outputs (l.row * (l.inputs + l.outputs) + l.column)

abbrev pub invariant-rows : goal.invariant-rows
invariant-rows l = (l.found ≡ Ok tt) × Clean l.rows l.states l.inputs l.outputs (l.row * (l.inputs + l.outputs))
