-- The rows of the standard box, and its table. Assumes nothing.
use Rattle.std.specs.Prelude.{Bool, ◌&&◌, List, [], ◌∷◌, ℕ, zero, suc, ◌+◌, ◌*◌, ◌/◌, ◌%◌, eqb, Option, Some, None}
use Rattle.model.specs.Table.{Table}
use Rattle.standard.specs.Rule.{states, inputs, outputs, rule}

-- A next state, or 255 for "not allowed here".
abbrev pub written : Option ℕ → ℕ
written None = 255
written (Some s) = s

-- The values of f at the n places from i on.
abbrev pub listed : (ℕ → ℕ) → ℕ → ℕ → List ℕ
listed f i zero = []
listed f i (suc n) = f i ∷ listed f (suc i) n

-- A row's bytes.
abbrev pub columns : ℕ
columns = inputs + outputs

-- Row by row, byte i stands in this row and column.
abbrev pub in_place : {A : Type 0} → (ℕ → ℕ → A) → ℕ → A
in_place f i = f (i / columns) (i % columns)

-- In each row and column what the rule says.
unfoldable pub standard_rows : List ℕ
standard_rows = listed (in_place (λ s k. written (rule s k))) 0 (states * columns)

abbrev pub standard_table : Table
standard_table = record { states = states; inputs = inputs; outputs = outputs; rows = standard_rows }

-- Counts of states, inputs and outputs that are the standard box's.
abbrev pub standard_counts : ℕ → ℕ → ℕ → Bool
standard_counts s i o = eqb s states && eqb i inputs && eqb o outputs
