-- Laws of how many records come before the first that fails a test. Assumes nothing.
use mathlib.Core.Path.{◌≡◌, refl, sym, ap, ◌∙◌}
use mathlib.Core.Bool.{Bool, true, false, not, cond}
use mathlib.Core.List.{List}
use Prim.Native.Nat.{ℕ, ◌≤◌, ◌<◌}
use native.Mathlib.Decide.{dec_lt}
use native.Mathlib.Omega.{arith}
use lib.Dec.{ltb}
use lib.ListN.{length, get_or}
use borrow.Author.Tests.{ltb-false}
use Rattle.std.specs.Prelude.{Option, None, Some}
use Rattle.std.specs.Option.{unwrap_or}
use Rattle.std.specs.List.{range_with_len, position_or_len}
use Rattle.std.proofs.lemmas.List.FromFn.{length-range_with_len, get_or-range_with_len}
use Rattle.std.proofs.lemmas.List.Quantifiers.{position-Some}
use Rattle.std.proofs.lemmas.List.Sums.{fails_before_first}
use Rattle.capture.specs.Importing.{first_failing, passing}

not_not : (b : Bool) → not b ≡ false → b ≡ true
not_not true e = refl
not_not false e = absurd (cc)

not_true : (b : Bool) → not b ≡ true → b ≡ false
not_true true e = absurd (cc)
not_true false e = refl

module _ (p : ℕ → Bool) where
  -- so far, all pass
  abbrev pub Pass : ℕ → Type 0
  Pass n = (j : ℕ) → j < n → p j ≡ true

  abbrev fails : ℕ → Bool
  fails k = not (p k)

  abbrev below : ℕ → List ℕ
  below n = range_with_len 0 n

  -- the number below n that is at place j
  place : (n j : ℕ) → j < n → get_or (below n) j 0 ≡ j
  place n j l = omega (arith, get_or-range_with_len 0 n j 0 l)

  -- what the first that fails says,
  pub some_failing : (n k : ℕ) → first_failing p n ≡ Some k → (k < n) × (p k ≡ false) × Pass k
  some_failing n k e =
      let (l, f, h) = position-Some fails (below n) k 0 e in
      let m : k < n = omega (arith, length-range_with_len 0 n) in (
        m,
        not_true (p k) (ap fails (sym (place n k m)) ∙ f),
        λ j a. not_not (p j) (ap fails (sym (place n j (omega arith))) ∙ h j a),
      )

  pub some_below : (n k : ℕ) → first_failing p n ≡ Some k → k < n
  some_below n k e = (some_failing n k e).0

  -- and that there is none
  pub none_failing : (n : ℕ) → first_failing p n ≡ None → Pass n
  none_failing n e j l = go (ltb (position_or_len fails (below n)) (length (below n))) refl e
    where
      go : (b : Bool) → ltb (position_or_len fails (below n)) (length (below n)) ≡ b
          → cond b (Some (position_or_len fails (below n))) None ≡ None → p j ≡ true
      go true e f = absurd (cc)
      go false e f =
          let m : length (below n) ≤ position_or_len fails (below n) = ltb-false _ _ e in
          not_not (p j)
          (ap fails (sym (place n j l)) ∙ fails_before_first fails (below n) j 0 (omega (arith, length-range_with_len 0 n)))

  pub passing_to : (n k : ℕ) → k < n → Pass k → p k ≡ false → k ≡ passing p n
  unfolding passing
  passing_to n k l h e = go (first_failing p n) refl
    where
      go : (f : Option ℕ) → first_failing p n ≡ f → k ≡ unwrap_or f n
      go None g = let t : p k ≡ true = none_failing n g k l in absurd (cc)
      go (Some m) g =
          let (a, f, b) = some_failing n m g in
          elim (dec_lt k m) [
            | yes x ↦ let t : p k ≡ true = b k x in absurd (cc)
            | no x ↦ elim (dec_lt m k) [
              | yes y ↦ let t : p m ≡ true = h m y in absurd (cc)
              | no y ↦ omega arith
            ]
          ]

  pub passing_all : (n : ℕ) → Pass n → n ≡ passing p n
  unfolding passing
  passing_all n h = go (first_failing p n) refl
    where
      go : (f : Option ℕ) → first_failing p n ≡ f → n ≡ unwrap_or f n
      go None g = refl
      go (Some m) g = let (l, f, b) = some_failing n m g in let t : p m ≡ true = h m l in absurd (cc)

  -- what the number says
  pub record Known (n m : ℕ) : Type 0 where
    pub within : m ≤ n
    pub before : Pass m
    pub at : m < n → p m ≡ false

  pub passing_known : (n : ℕ) → Known n (passing p n)
  unfolding passing
  passing_known n = go (first_failing p n) refl
    where
      go : (f : Option ℕ) → first_failing p n ≡ f → Known n (unwrap_or f n)
      go None g = record { within = omega arith; before = none_failing n g; at = λ l. absurd (omega arith) }
      go (Some k) g = let (l, f, h) = some_failing n k g in record { within = omega (arith, l); before = h; at = λ m. f }

  -- all pass exactly when the number is that of all
  pub all_pass : (n : ℕ) → passing p n ≡ n → Pass n
  all_pass n e = let k = passing_known n in λ j l. k.before j (omega arith)
