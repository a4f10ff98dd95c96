-- What is told of a block that is not what it must be: document 01's number 12, and document 02's numbers 20 to 23 in place of 13.
-- Assumes nothing.
use Rattle.std.specs.Prelude.{Bool, true, false, List, [], ◌∷◌, ℕ, Option, Some, None, Result, Ok, Err}
use Rattle.table.specs.declared.answer.Told.{Told}
use Rattle.flaw.specs.declared.Flaw.{Flaw}
use Rattle.flaw.specs.declared.Flaw.TheVariants.{Check, Kind, Order, ByteOne, Number, Used, Source, Fill}
use Rattle.flaw.specs.declared.Seen.{Seen}
use Rattle.flaw.specs.Test.{Test}

-- TESTS IN THEIR ORDER: the first that fails gives the answer, whatever it is that they tell

-- A test that tells what is wrong where it fails.
abbrev pub must : {E : Type 0} → Bool → E → Result (Unit {0}) E
must true flaw = Ok tt
must false flaw = Err flaw

-- One test, and the rest after it.
abbrev pub then : {E : Type 0} → Result (Unit {0}) E → Result (Unit {0}) E → Result (Unit {0}) E
then (Ok _) rest = rest
then (Err flaw) rest = Err flaw

-- Tests one after another.
abbrev pub first_of : {E : Type 0} → List (Result (Unit {0}) E) → Result (Unit {0}) E
first_of [] = Ok tt
first_of (t ∷ []) = t
first_of (t ∷ u ∷ ts) = then t (first_of (u ∷ ts))

-- THE FIRST FLAW, in this order:

-- 20 kind or block order,
abbrev pub place_test : Seen → Test
place_test s = first_of (must s.kind Kind ∷ must s.order Order ∷ [])

-- 21 byte 1 or number,
abbrev pub number_test : Seen → Test
number_test s = first_of (must s.one ByteOne ∷ must s.number Number ∷ [])

-- 22 used count,
abbrev pub used_test : Seen → Test
used_test s = must s.used Used

-- 23 source or zero fill, of which the first byte is told that should be zero and is not;
abbrev pub of_fill : Option ℕ → Test
of_fill None = Ok tt
of_fill (Some i) = Err (Fill i)

abbrev pub fill_test : Seen → Test
fill_test s = first_of (must s.source Source ∷ of_fill s.fill ∷ [])

-- and before them all, 12.
unfoldable pub first_flaw : Seen → Test
first_flaw s = first_of (must s.check Check ∷ place_test s ∷ number_test s ∷ used_test s ∷ fill_test s ∷ [])

-- WHAT IS TOLD OF IT

abbrev pub number_of : Flaw → ℕ
number_of Check = 12
number_of Kind = 20
number_of Order = 20
number_of ByteOne = 21
number_of Number = 21
number_of Used = 22
number_of Source = 23
number_of (Fill i) = 23

-- 0 for 20; 1, else 2, for 21; 4 for 22; 11, else the first byte that should be zero, for 23. With 12 no offset is named.
abbrev pub offset_of : Flaw → ℕ
offset_of Check = 0
offset_of Kind = 0
offset_of Order = 0
offset_of ByteOne = 1
offset_of Number = 2
offset_of Used = 4
offset_of Source = 11
offset_of (Fill i) = i

-- Each with the block and an offset in it.
unfoldable pub told : Flaw → ℕ → Told
told flaw block = record { number = number_of flaw; place = block; second = offset_of flaw }
