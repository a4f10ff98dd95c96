-- Laws of a trace's events: which is the first that is not valid. Assumes nothing.
use Rattle.std.specs.Prelude.{Option, Some, None, Ok, Err}
use mathlib.Core.Path.{◌≡◌, refl, ap}
use Prim.Native.Nat.{ℕ}
use native.Mathlib.Omega.{arith}
use lib.ListN.{length}
use Rattle.table.specs.First.{first}
use Rattle.table.specs.Tests.{invalid_at, unless_invalid, events_test}
use Rattle.table.specs.Laws.{EventsPass, FirstInvalid}
use Rattle.table.specs.declared.answer.Refusal.TheVariants.{Event}
use Rattle.table.proofs.First.{found_none, found_first}

-- what the test answers tells what was found
none_found : (f : Option ℕ) → unless_invalid f ≡ Ok tt → f ≡ None
none_found None e = refl
none_found (Some k) e = absurd (let z : ◌≡◌ {A = ℕ} 0 1 = cc in omega arith)

one_found : (f : Option ℕ) (k : ℕ) → unless_invalid f ≡ Err (Event k) → f ≡ Some k
one_found None k e = absurd (let z : ◌≡◌ {A = ℕ} 0 1 = cc in omega arith)
one_found (Some i) k e = let z : i ≡ k = cc in rw z

pub events_pass : EventsPass
unfolding events_test
events_pass trace i o = (
  λ e. (found_none (invalid_at trace i o) (length trace)).0 (none_found (first (invalid_at trace i o) (length trace)) e),
  λ h. ap unless_invalid ((found_none (invalid_at trace i o) (length trace)).1 h),
)

pub first_invalid : FirstInvalid
unfolding events_test
first_invalid trace i o k = (
  λ e. (found_first (invalid_at trace i o) (length trace) k).0 (one_found (first (invalid_at trace i o) (length trace)) k e),
  λ h. ap unless_invalid ((found_first (invalid_at trace i o) (length trace) k).1 h),
)
