-- A number's digits are those that the kit's functions make. Assumes nothing.
use mathlib.Core.Path.{◌≡◌, sym, ◌∙◌, ap}
use mathlib.Core.Bool.{Bool, cond}
use mathlib.Core.List.{List, [], ◌∷◌, ◌++◌}
use Prim.Native.Nat.{ℕ, zero, suc, ◌-◌, ◌*◌, ◌/◌, ◌%◌, ◌^◌, ◌≤◌, ◌<◌}
use native.Mathlib.Nat.{one-le-pow, pow-le-pow_right, pow-suc, zero-lt-suc}
use native.Mathlib.Decide.{dec_lt}
use native.Mathlib.Omega.{arith}
use borrow.Author.Tests.{lt-ltb, le-ltb}
use Rattle.io.specs.Digits.{hex_digit_ascii, last_digits, IsDigitCount}
use Rattle.lines.specs.Texts.{spelt, decimal, hexadecimal}

-- so many digits are enough, and one fewer would not be
pub digits_spelt : (f k n : ℕ) → k ≤ f → IsDigitCount 10 1 n k → last_digits 10 k n ≡ spelt f n
digits_spelt f zero n h (a, b, c) = absurd (omega arith)
digits_spelt zero (suc k) n h w = absurd (omega arith)
digits_spelt (suc f) (suc zero) n h (a, b, c) = let e : n % 10 ≡ n = omega arith in ap (λ (x : ℕ). hex_digit_ascii x ∷ []) e ∙ sym (ap (λ (t : Bool). cond {A = List ℕ} t (hex_digit_ascii n ∷ []) (spelt f (n / 10) ++ (hex_digit_ascii (n % 10) ∷ []))) (lt-ltb n 10 b))
digits_spelt (suc f) (suc (suc k)) n h (a, b, c) =
    let p : 10 ^ suc (suc k) ≡ 10 ^ suc k * 10 = pow-suc 10 (suc k) in
    let q : 10 ^ suc k ≡ 10 ^ k * 10 = pow-suc 10 k in
    let many : 10 ^ suc k ≤ n = (let e : suc (suc k) - 1 ≡ suc k = omega arith in rw e at (c (omega arith))) in
    let big : 10 ≤ n = omega (arith, one-le-pow k 10 (zero-lt-suc 9)) in
    rw (le-ltb n 10 big)
    (ap (λ (x : List ℕ). x ++ (hex_digit_ascii (n % 10) ∷ []))
    (digits_spelt f (suc k) (n / 10) (omega arith) (omega arith, omega arith, λ l. (let e : suc k - 1 ≡ k = omega arith in rw e (omega arith)))))

-- a number below b ^ m has no more than m digits, or the least that are asked for
few : (b m least k n : ℕ) → 0 < b → least ≤ m → n < b ^ m → IsDigitCount b least n k → k ≤ m
few b m least k n pos h l (a, c, d) =
    elim (dec_lt m k) [
      | no x ↦ omega arith
      | yes x ↦ absurd (let p : b ^ m ≤ b ^ (k - 1) = pow-le-pow_right pos (omega arith) in omega (arith, d (omega arith)))
    ]

pub decimal_digits : (k n : ℕ) → n < 2 ^ 64 → IsDigitCount 10 1 n k → last_digits 10 k n ≡ decimal n
unfolding decimal
decimal_digits k n h w = digits_spelt 20 k n (few 10 20 1 k n (omega arith) (omega arith) (omega arith) w) w

-- sixteen digits at least, and at most
pub hexadecimal_digits : (k n : ℕ) → n < 2 ^ 64 → IsDigitCount 16 16 n k → last_digits 16 k n ≡ hexadecimal n
unfolding hexadecimal
hexadecimal_digits k n h (a, b, c) =
    let l : k ≤ 16 = few 16 16 16 k n (omega arith) (omega arith) (omega arith) (a, b, c) in
    let e : k ≡ 16 = omega arith in
    rw e
