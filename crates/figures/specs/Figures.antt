-- The numbers by which a test and a flag are told to a program in another language. Assumes nothing.
use Rattle.std.specs.Prelude.{ℕ, zero, suc, ◌+◌, List, [], ◌∷◌, Option, Some, None}
use Rattle.table.specs.Refusals as table
use Rattle.table.specs.declared.answer.Told.{Told}
use Rattle.table.specs.Test.{Test}

-- The number, the place and the second place: the row and the column of number 4, the block and the offset of 20 to 23.
abbrev pub figures : Told → List ℕ
figures t = t.number ∷ t.place ∷ t.second ∷ []

-- What is not refused has number 0, and places 0.
abbrev pub told_test : Test → Told
told_test t = table.told_by table.told t

-- A flag in one word: 0 for none, place + 1 otherwise.
unfoldable pub flag_word : Option ℕ → ℕ
flag_word None = 0
flag_word (Some place) = place + 1

unfoldable pub flag_in : ℕ → Option ℕ
flag_in zero = None
flag_in (suc place) = Some place
