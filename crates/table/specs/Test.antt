-- How a test ends: it passes, or it refuses and says why. Assumes nothing.
use Rattle.std.specs.Prelude.{Result, Ok, Err}
use Rattle.table.specs.declared.answer.Refusal.{Refusal}

abbrev pub Test : Type 0
Test = Result (Unit {0}) Refusal

-- What else an answer holds left aside: how the test before it ended.
abbrev pub test_of : {A : Type 0} → Result A Refusal → Test
test_of (Ok a) = Ok tt
test_of (Err r) = Err r
