-- What tests that are bools say. Assumes nothing.
use mathlib.Core.Path.{◌≡◌, refl, sym, ◌∙◌}
use mathlib.Core.Bool.{Bool, true, false, not, ◌&&◌}
use Prim.Native.Nat.{ℕ}
use native.Mathlib.Omega.{arith}
use borrow.Author.Tests.{not-true, not-false}

-- `cc` shows 0 ≡ 1 where two constructors are said to be equal
pub clash : {A : Type 0} → ◌≡◌ {A = ℕ} 0 1 → A
clash z = absurd (omega arith)

pub both : (a b : Bool) → (a && b) ≡ true → (a ≡ true) × (b ≡ true)
both true b e = (refl, e)
both false b e = clash (cc)

-- a call r that meets b, under `!`
pub failed : (r : Bool) {b : Bool} → r ≡ b → not r ≡ true → b ≡ false
failed r e n = sym e ∙ not-true r n

pub passed : (r : Bool) {b : Bool} → r ≡ b → not r ≡ false → b ≡ true
passed r e n = sym e ∙ not-false r n
