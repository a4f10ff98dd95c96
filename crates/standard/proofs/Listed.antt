-- What stands in a list of values, and a test of every value that the checker computes, carried to each. Assumes nothing.
use Rattle.std.specs.Prelude.{Option, Some, None}
use mathlib.Core.Path.{◌≡◌, refl, ap}
use mathlib.Core.Bool.{Bool, true, false, ◌&&◌, and-eq-true_iff}
use Prim.Native.Nat.{ℕ, zero, suc, ◌+◌, ◌<◌}
use native.Mathlib.Omega.{arith}
use lib.Dec.{eqb}
use lib.ListN.{length, get_or}
use borrow.Author.Tests.{eqb-true}
use Rattle.standard.specs.Box.{listed}

pub listed_length : (f : ℕ → ℕ) (i n : ℕ) → length (listed f i n) ≡ n
listed_length f i zero = refl
listed_length f i (suc n) = ap suc (listed_length f (suc i) n)

pub listed_at : (f : ℕ → ℕ) (i n k d : ℕ) → k < n → get_or (listed f i n) k d ≡ f (i + k)
listed_at f i zero k d h = absurd (omega arith)
listed_at f i (suc n) zero d h = let e : i + 0 ≡ i = omega arith in rw e
listed_at f i (suc n) (suc k) d h =
    let e : i + suc k ≡ suc i + k = omega arith in
    rw e (listed_at f (suc i) n k d (omega arith))

-- The test passes at each of the n places from i on.
abbrev pub every : (ℕ → Bool) → ℕ → ℕ → Bool
every test i zero = true
every test i (suc n) = test i && every test (suc i) n

pub at : (test : ℕ → Bool) (i n k : ℕ) → every test i n ≡ true → k < n → test (i + k) ≡ true
at test i zero k t h = absurd (omega arith)
at test i (suc n) zero t h = let e : i + 0 ≡ i = omega arith in rw e ((and-eq-true_iff (test i) (every test (suc i) n)).0 t).0
at test i (suc n) (suc k) t h =
    let e : i + suc k ≡ suc i + k = omega arith in
    rw e (at test (suc i) n k ((and-eq-true_iff (test i) (every test (suc i) n)).0 t).1 (omega arith))

-- Whether two entries are the same.
abbrev pub same : Option ℕ → Option ℕ → Bool
same None None = true
same None (Some b) = false
same (Some a) None = false
same (Some a) (Some b) = eqb a b

pub same_equal : (x y : Option ℕ) → same x y ≡ true → x ≡ y
same_equal None None t = refl
same_equal None (Some b) t = cc
same_equal (Some a) None t = cc
same_equal (Some a) (Some b) t = ap Some (eqb-true a b t)
