-- The number that eight bytes are. Assumes nothing.
use mathlib.Core.Path.{◌≡◌, refl, sym}
use mathlib.Core.Bool.{Bool, true, false}
use mathlib.Core.List.{List}
use Prim.Native.Nat.{ℕ, ◌+◌, ◌*◌, ◌/◌, ◌%◌, ◌^◌, ◌<◌}
use native.Mathlib.Nat.{div-div-eq-div-mul, div-lt_iff_lt-mul, mod-eq_of_lt}
use native.Mathlib.Omega.{arith}
use lib.Dec.{eqb}
use lib.ListN.{get_or}
use borrow.Author.Tests.{eqb-true}
use Rattle.states.specs.In.{In}
use Rattle.states.specs.Decides.{Decides}
use Rattle.states.proofs.Ends.{below_by}
use Rattle.run.specs.Run.{eight, At}
use Rattle.run.specs.Laws.{NumberRead}

step : (m d : ℕ) → m / d ≡ m / d % 256 + 256 * (m / (d * 256))
step m d = let e : m / d / 256 ≡ m / (d * 256) = div-div-eq-div-mul m d 256 in rw (sym e) (omega arith)

joined : (m a b c d e f g h p q r s t u v : ℕ) → m ≡ p + 256 * a → a ≡ q + 256 * b → b ≡ r + 256 * c → c ≡ s + 256 * d → d ≡ t + 256 * e
    → e ≡ u + 256 * f → f ≡ v + 256 * g → g ≡ h
    → p + 256 * (q + 256 * (r + 256 * s)) + 4294967296 * (t + 256 * (u + 256 * (v + 256 * h))) ≡ m
joined m a b c d e f g h p q r s t u v i j k l n o x y = rw (i, j, k, l, n, o, x, y) (omega arith)

-- Eight bytes, least first, are the number that they were made of.
pub number_read : NumberRead
number_read m rest h =
    let top : m / 72057594037927936 < 256 = (div-lt_iff_lt-mul {k = 72057594037927936} {x = m} {y = 256} (omega arith)).1 h in
    joined m (m / 256) (m / 65536) (m / 16777216) (m / 4294967296) (m / 1099511627776) (m / 281474976710656) (m / 72057594037927936)
    (m / 72057594037927936 % 256) (m % 256) (m / 256 % 256) (m / 65536 % 256) (m / 16777216 % 256) (m / 4294967296 % 256)
    (m / 1099511627776 % 256) (m / 281474976710656 % 256) (omega arith) (step m 256) (step m 65536) (step m 16777216) (step m 4294967296)
    (step m 1099511627776) (step m 281474976710656) (sym (mod-eq_of_lt top))

-- a word whose states are all below 64
pub small : (x : ℕ) → ((q : ℕ) → In q x → q < 64) → x < 2 ^ 64
small x h = go (eqb (x / 2 ^ 64) 0) refl (below_by x 64)
  where
    go : (t : Bool) → eqb (x / 2 ^ 64) 0 ≡ t → Decides t ((q : ℕ) → In q x → q < 64) → x < 2 ^ 64
    go true e d =
        let z : x / 2 ^ 64 ≡ 0 = eqb-true (x / 2 ^ 64) 0 e in
        (div-lt_iff_lt-mul {k = 2 ^ 64} {x = x} {y = 1} (omega arith)).0 (omega arith)
    go false e d = absurd (d.no refl h)

-- the number of a line, wherever it stands
pub eight_at : (place : ℕ) (line bytes : List ℕ) → At place line bytes → eight bytes place ≡ eight line 0
eight_at place line bytes h =
    rw (
      at place 0 (omega arith) (omega arith),
      at (place + 1) 1 (omega arith) (omega arith),
      at (place + 2) 2 (omega arith) (omega arith),
      at (place + 3) 3 (omega arith) (omega arith),
      at (place + 4) 4 (omega arith) (omega arith),
      at (place + 4 + 1) 5 (omega arith) (omega arith),
      at (place + 4 + 2) 6 (omega arith) (omega arith),
      at (place + 4 + 3) 7 (omega arith) (omega arith),
    )
  where
    at : (p j : ℕ) → p ≡ place + j → j < 12 → get_or bytes p 0 ≡ get_or line j 0
    at p j e l = rw e (h j l)
