-- What `first` finds. Assumes nothing.
use Rattle.std.specs.Prelude.{Option, Some, None}
use mathlib.Core.Path.{◌≡◌, refl}
use mathlib.Core.Bool.{Bool, true, false}
use mathlib.Core.Logic.{◌⊎◌, inl, inr, ⊎_elim}
use Prim.Native.Nat.{ℕ, zero, suc, ◌+◌, ◌≤◌, ◌<◌}
use native.Mathlib.Nat.{eq-or-lt_of_le}
use native.Mathlib.Numerals.{add-one}
use native.Mathlib.Omega.{arith}
use Rattle.table.specs.First.{first, or_last}
use Rattle.table.specs.Laws.{FoundNone, FoundFirst}
use Rattle.table.proofs.Checks.{clash}

module _ (p : ℕ → Bool) where
  nothing : {n : ℕ} (o : Option ℕ) → or_last p n o ≡ None → (o ≡ None) × (p n ≡ false)
  nothing (Some k) e = clash (cc)
  nothing {n} None e = (refl, go (p n) e)
    where
      go : (b : Bool) → or_last (λ x. b) n None ≡ None → b ≡ false
      go true e = clash (cc)
      go false e = refl

  something : {n k : ℕ} (o : Option ℕ) → or_last p n o ≡ Some k → (o ≡ Some k) ⊎ ((o ≡ None) × (k ≡ n) × (p n ≡ true))
  something (Some j) e = inl e
  something {n} {k} None e = go (p n) refl e
    where
      go : (b : Bool) → p n ≡ b → or_last (λ x. b) n None ≡ Some k → (◌≡◌ {A = Option ℕ} None (Some k)) ⊎ ((◌≡◌ {A = Option ℕ} None None) × (k ≡ n) × (p n ≡ true))
      go true q e = inr (refl, (cc), q)
      go false q e = inl e

  -- one number more, which fails
  pub none_more : (n : ℕ) → first p n ≡ None → p n ≡ false → first p (n + 1) ≡ None
  unfolding first
  none_more n e f = rw (add-one, e, f)

  -- a number that passes after none that does is the first of every stretch that has it
  pub found : (n : ℕ) {k : ℕ} → first p k ≡ None → p k ≡ true → k < n → first p n ≡ Some k
  unfolding first
  found zero e f l = absurd (omega arith)
  found (suc n) {k} e f l =
      let m : k ≤ n = omega arith in
      ⊎_elim (λ q. rw (← q, e, f)) (λ l'. rw (found n e f l')) (eq-or-lt_of_le m)

  none_below : (n : ℕ) → first p n ≡ None → (k : ℕ) → k < n → p k ≡ false
  unfolding first
  none_below zero e k l = absurd (omega arith)
  none_below (suc n) e k l =
      let (o, f) = nothing (first p n) e in
      let m : k ≤ n = omega arith in
      ⊎_elim (λ q. rw q f) (λ l'. none_below n o k l') (eq-or-lt_of_le m)

  below_none : (n : ℕ) → ((k : ℕ) → k < n → p k ≡ false) → first p n ≡ None
  unfolding first
  below_none zero h = refl
  below_none (suc n) h = rw (below_none n (λ k l. h k (omega arith)), h n (omega arith))

  some_least : (n k : ℕ) → first p n ≡ Some k → (k < n) × (p k ≡ true) × ((j : ℕ) → j < k → p j ≡ false)
  unfolding first
  some_least zero k e = clash (cc)
  some_least (suc n) k e =
      ⊎_elim
      (λ q. let (l, f, h) = some_least n k q in (omega arith, f, h))
      (λ (o, q, f). (omega arith, rw q f, rw q (none_below n o)))
      (something (first p n) e)

pub found_none : FoundNone
found_none p n = (none_below p n, below_none p n)

pub found_first : FoundFirst
found_first p n k = (some_least p n k, λ (l, f, h). found p n (below_none p k h) f l)
