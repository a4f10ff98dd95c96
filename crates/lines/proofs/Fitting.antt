-- Lines are short: no text leaves anything out. Assumes nothing.
use Rattle.std.specs.Prelude.{Some, None}
use mathlib.Core.Path.{◌≡◌, refl}
use mathlib.Core.Bool.{Bool, true, false, cond}
use mathlib.Core.List.{List, [], ◌∷◌, ◌++◌}
use Prim.Native.Nat.{ℕ, zero, suc, ◌-◌, ◌/◌, ◌%◌, ◌^◌, ◌≤◌, ◌<◌}
use native.Mathlib.Nat.{pow-suc}
use native.Mathlib.Omega.{arith}
use lib.Dec.{ltb, eqb}
use lib.ListN.{length, get_or, length-append}
use lib.Seq.{take_all}
use borrow.Author.Tests.{lt-ltb}
use Rattle.io.specs.Digits.{hex_digit_ascii, last_digits}
use Rattle.lines.specs.Texts.{most_text, text_of, spelt, decimal, hexadecimal}
use Rattle.lines.specs.Lines.{space, dash, symbol, states_in, pair, has_second, second_place, event_line, last_line, refused_line}
use Rattle.lines.specs.Laws.{TextHolds, EventFits, LastFits, RefusedFits}

abbrev after : ℕ → ℕ → Bool → List ℕ
after f n t = cond t (hex_digit_ascii n ∷ []) (spelt f (n / 10) ++ (hex_digit_ascii (n % 10) ∷ []))

-- a number below 10 ^ (j + 1) has at most j + 1 digits,
spelt_few : (j f n : ℕ) → n < 10 ^ suc j → length (spelt f n) ≤ suc j
spelt_few j zero n h = omega arith
spelt_few zero (suc f) n h = rw (lt-ltb n 10 h) (omega arith)
spelt_few (suc j) (suc f) n h = go (ltb n 10) (spelt_few j f (n / 10) (omega (arith, pow-suc 10 (suc j))))
  where
    go : (t : Bool) → length (spelt f (n / 10)) ≤ suc j → length (after f n t) ≤ suc (suc j)
    go true l = omega arith
    go false l = simp length-append (omega arith)

-- and every number at most as many as are asked for
spelt_most : (f n : ℕ) → length (spelt f n) ≤ f
spelt_most zero n = omega arith
spelt_most (suc f) n = go (ltb n 10) (spelt_most f (n / 10))
  where
    go : (t : Bool) → length (spelt f (n / 10)) ≤ f → length (after f n t) ≤ suc f
    go true l = omega arith
    go false l = simp length-append (omega arith)

decimal_most : (n : ℕ) → length (decimal n) ≤ 20
unfolding decimal
decimal_most n = spelt_most 20 n

-- a byte has at most three digits
decimal_byte : (n : ℕ) → n < 256 → length (decimal n) ≤ 3
unfolding decimal
decimal_byte n h = spelt_few 2 20 n (omega arith)

digits_long : (b k n : ℕ) → length (last_digits b k n) ≡ k
digits_long b zero n = refl
digits_long b (suc k) n = simp length-append (omega (arith, digits_long b k (n / b)))

hexadecimal_long : (n : ℕ) → length (hexadecimal n) ≡ 16
unfolding hexadecimal
hexadecimal_long n = digits_long 16 16 n

symbol_few : (b : ℕ) → b < 256 → length (symbol b) ≤ 4
symbol_few b h = go (ltb b 128)
  where
    go : (t : Bool) → length (cond {A = List ℕ} t (105 ∷ decimal b) (111 ∷ decimal (b - 128))) ≤ 4
    go true = omega (arith, decimal_byte b h)
    go false = omega (arith, decimal_byte (b - 128) (omega arith))

pair_few : (n a b : ℕ) → a < 256 → b < 256 → length (pair n a b) ≤ 7
pair_few n a b g h = go (eqb n 0)
  where
    go : (t : Bool) → length (cond {A = List ℕ} t (dash ∷ []) (decimal a ++ (dash ∷ decimal b))) ≤ 7
    go true = omega arith
    go false = simp length-append (omega (arith, decimal_byte a g, decimal_byte b h))

second_few : (n s : ℕ) → length (second_place n s) ≤ 21
second_few n s = go (has_second n)
  where
    go : (t : Bool) → length (cond {A = List ℕ} t (space ∷ decimal s) []) ≤ 21
    go true = omega (arith, decimal_most s)
    go false = omega arith

pub event_fits : EventFits
unfolding event_line
event_fits k b twelve h g =
    let n = states_in twelve in
    simp length-append
    (omega (
      arith,
      decimal_most k,
      symbol_few b h,
      hexadecimal_long n,
      pair_few n (get_or twelve 8 0) (get_or twelve 9 0) (g 8) (g 9),
      pair_few n (get_or twelve 10 0) (get_or twelve 11 0) (g 10) (g 11),
    ))

pub last_fits : LastFits
unfolding last_line
last_fits None = omega arith
last_fits (Some place) = simp length-append (omega (arith, decimal_most place))

pub refused_fits : RefusedFits
unfolding refused_line
refused_fits t = simp length-append (omega (arith, decimal_most t.number, decimal_most t.place, second_few t.number t.second))

pub text_holds : TextHolds
unfolding text_of
text_holds l h = take_all most_text l h
