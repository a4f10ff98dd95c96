-- What the symbol of an event byte means. Assumes nothing.
use Rattle.std.specs.Prelude.{Option, Some, None}
use mathlib.Core.Path.{◌≡◌, refl, sym}
use mathlib.Core.Bool.{Bool, true, false, cond, ◌&&◌}
use mathlib.Core.Logic.{◌⊎◌, inl, inr, ⊎_elim}
use Prim.Native.Nat.{ℕ, ◌+◌, ◌-◌, ◌≤◌, ◌<◌}
use native.Mathlib.Omega.{arith}
use lib.Dec.{ltb}
use borrow.Author.Tests.{ltb-true, ltb-false, lt-ltb}
use Rattle.model.specs.Limits.{most_inputs, most_outputs}
use Rattle.model.specs.Model.{Event, input, output, event}
use Rattle.table.specs.Bytes.{symbol, symbol_of}
use Rattle.table.specs.Laws.{SymbolMeans, GivenMeans}
use Rattle.table.specs.declared.answer.Symbol.{Symbol}
use Rattle.table.specs.declared.answer.Symbol.TheVariants.{Input, Output}
use Rattle.table.proofs.Checks.{clash, both}

-- the byte of an event
input_byte : (b : ℕ) {a : ℕ} → event b ≡ input a → a ≡ b
unfolding event
input_byte b {a} = go (ltb b 128)
  where
    go : (t : Bool) → cond t (input b) (output (b - 128)) ≡ input a → a ≡ b
    go true e = cc
    go false e = clash (cc)

output_byte : (b : ℕ) {a : ℕ} → event b ≡ output a → 128 + a ≡ b
unfolding event
output_byte b {a} = go (ltb b 128) refl
  where
    go : (t : Bool) → ltb b 128 ≡ t → cond t (input b) (output (b - 128)) ≡ output a → 128 + a ≡ b
    go true f e = clash (cc)
    go false f e = let d : b - 128 ≡ a = cc in omega (arith, ltb-false b 128 f)

-- a symbol that is valid where a is below the limit and below the count n
module _ (limit n a : ℕ) where
  given : {x y : Option Symbol} → cond (ltb a limit && ltb a n) x None ≡ y → ((a < n) × (x ≡ y)) ⊎ (None ≡ y)
  given {x} {y} = go (ltb a limit && ltb a n) refl
    where
      go : (t : Bool) → (ltb a limit && ltb a n) ≡ t → cond t x None ≡ y → ((a < n) × (x ≡ y)) ⊎ (None ≡ y)
      go true t e = inl (ltb-true a n (both (ltb a limit) (ltb a n) t).1, e)
      go false t e = inr e

  valid : (x : Option Symbol) → n ≤ limit → a < n → cond (ltb a limit && ltb a n) x None ≡ x
  valid x m l = rw (lt-ltb a limit (omega arith), lt-ltb a n l)

  refused : (x : Option Symbol) → (a < n → ⊥) → cond (ltb a limit && ltb a n) x None ≡ None
  refused x f = ⊎_elim (λ (l, e). absurd (f l)) (λ e. sym e) (given refl)

module _ (i o : ℕ) where
  -- the event that a symbol is given for
  abbrev Of : Event → Option Symbol → Type 0
  Of e (Some (Input a)) = (a < i) × (e ≡ input a)
  Of e (Some (Output a)) = (a < o) × (e ≡ output a)
  Of e None = Unit {0}

  of : (e : Event) {x : Option Symbol} → symbol e i o ≡ x → Of e x
  of (input a) q = ⊎_elim (λ (l, r). rw (← r) (l, refl)) (λ r. rw (← r) tt) (given most_inputs i a q)
  of (output a) q = ⊎_elim (λ (l, r). rw (← r) (l, refl)) (λ r. rw (← r) tt) (given most_outputs o a q)

  none : (e : Event) → ((a : ℕ) → e ≡ input a → a < i → ⊥) → ((a : ℕ) → e ≡ output a → a < o → ⊥) → symbol e i o ≡ None
  none (input a) f g = refused most_inputs i a (Some (Input a)) (f a refl)
  none (output a) f g = refused most_outputs o a (Some (Output a)) (g a refl)

pub given_means : GivenMeans
unfolding symbol_of
given_means b i o a = (
  λ q. let (l, e) = of i o (event b) q in (input_byte b e, l, e),
  λ q. let (l, e) = of i o (event b) q in (output_byte b e, l, e),
)

pub symbol_means : SymbolMeans
unfolding symbol_of
symbol_means b i o (Some (Input a)) m n = ((given_means b i o a).0, λ (p, l, e). rw e (valid most_inputs i a (Some (Input a)) m l))
symbol_means b i o (Some (Output a)) m n = ((given_means b i o a).1, λ (p, l, e). rw e (valid most_outputs o a (Some (Output a)) n l))
symbol_means b i o None m n = (
  λ q. (λ a e l. clash (cc (valid most_inputs i a (Some (Input a)) m l, rw e at q)), λ a e l. clash (cc (valid most_outputs o a (Some (Output a)) n l, rw e at q))),
  λ (f, g). none i o (event b) f g,
)
