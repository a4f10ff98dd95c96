-- Every statement of specs/Laws.antt, proved. Assumes nothing.
use mathlib.Core.Path.{◌≡◌, refl}
use mathlib.Core.Bool.{Bool, true, false}
use lib.ListN.{length}
use borrow.Author.Tests.{leb-false, lt-leb}
use Rattle.standarddoors.specs.Results.{rows_size}
use Rattle.standarddoors.specs.Results as doors
use Rattle.standarddoors.specs.Laws.{GivingFalse, GivingFalseKeeps, OneGiving}

-- memory is not both too short and long enough
not_both : {A : Type 0} {r : Bool} → r ≡ false → r ≡ true → A
not_both e f = cc

pub giving_false : GivingFalse
giving_false d a d' (doors.short e) = (λ _. leb-false rows_size (length d) e, λ _. refl)
giving_false d a d' (doors.gives e) = (λ f. not_both f refl, λ h. not_both (lt-leb rows_size (length d) h) e)

pub giving_false_keeps : GivingFalseKeeps
giving_false_keeps d d' (doors.short e) = refl

pub one_giving : OneGiving
one_giving d a₁ a₂ d₁ d₂ (doors.short e) (doors.short e') = (refl, refl)
one_giving d a₁ a₂ d₁ d₂ (doors.short e) (doors.gives e') = not_both e e'
one_giving d a₁ a₂ d₁ d₂ (doors.gives e) (doors.short e') = not_both e' e
one_giving d a₁ a₂ d₁ d₂ (doors.gives e) (doors.gives e') = (refl, refl)
