-- What `rillmoth_standard` answers and leaves in the memory lent to it, for every input. Assumes nothing.
use Rattle.std.specs.Prelude.{◌≡◌, Bool, true, false, List, ℕ, ◌+◌, ◌*◌, leb, length}
use Rattle.lent.specs.Lent.{front}
use Rattle.standard.specs.Rule.{states, inputs, outputs}
use Rattle.standard.specs.Box.{standard_rows}

-- How many bytes the rows are.
abbrev pub rows_size : ℕ
rows_size = states * (inputs + outputs)

-- The rows are at the start of the memory. The answer is false exactly when it is shorter, and then nothing is written.
pub data Giving (rows : List ℕ) : Bool → List ℕ → Type 0 where
  short : leb rows_size (length rows) ≡ false → Giving rows false rows
  gives : leb rows_size (length rows) ≡ true → Giving rows true (front rows standard_rows)
