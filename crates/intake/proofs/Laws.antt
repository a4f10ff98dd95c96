-- Every statement of specs/Laws.antt, proved. Assumes nothing.
use mathlib.Core.Path.{◌≡◌, refl, sym, ◌∙◌, ap}
use mathlib.Core.Bool.{Bool, true, false, cond, ◌||◌}
use mathlib.Core.List.{List, [], ◌∷◌, ◌++◌}
use mathlib.Core.Logic.{◌⊎◌, inl, inr}
use Prim.Native.Nat.{ℕ, ◌+◌, ◌≤◌, ◌<◌}
use native.Mathlib.Omega.{arith}
use lib.Dec.{eqb}
use lib.ListN.{length}
use borrow.Author.Tests.{eq-eqb, ne_eqb, eqb-true}
use Rattle.std.specs.Prelude.{Option, None, Some, Result, Ok, Err}
use Rattle.std.specs.declared.ops.ControlFlow.TheVariants.{Continue, Break}
use Rattle.intake.specs.Inputs.{most_count, sum_of, ended, input_of}
use Rattle.intake.specs.Laws.{resumed, reads_of, total}
use Rattle.intake.specs.Laws.{ReadByRead, AllCounted, FailureTold, TrueLength, WholeKept, OneTold}
use Rattle.intake.specs.declared.Input.{Input}

pub read_by_read : ReadByRead
read_by_read n None rs = refl
read_by_read n (Some bytes) rs = go (eqb bytes 0)
  where
    go : (none : Bool)
        → cond none (Some n) (ended (sum_of n bytes) rs) ≡ resumed (cond none (Break (Some n)) (Continue (sum_of n bytes))) rs
    go true = refl
    go false = refl

-- a read that got bytes, and then the others
got : (n m : ℕ) (rs : List (Option ℕ)) → 0 < m → ended n (Some m ∷ rs) ≡ ended (sum_of n m) rs
got n m rs h = rw (ne_eqb m 0 (λ e. omega (arith, e)))

sums : (n m k : ℕ) → sum_of (sum_of n m) k ≡ sum_of n (m + k)
sums n m k = omega arith

pub all_counted : AllCounted
all_counted n [] rs l g = let e : n ≡ sum_of n 0 = omega arith in ap Some e
all_counted n (m ∷ ns) rs l (h, g) =
    got n m (reads_of ns ++ (Some 0 ∷ rs)) h ∙ all_counted (sum_of n m) ns rs (omega arith) g ∙ ap Some (sums n m (total ns))

pub failure_told : FailureTold
failure_told n [] rs g = refl
failure_told n (k ∷ ns) rs (h, g) = got n k (reads_of ns ++ (None ∷ rs)) h ∙ failure_told (sum_of n k) ns rs g

pub true_length : TrueLength
true_length room ns l g =
    let e : sum_of room (sum_of 0 (total ns)) ≡ sum_of room (total ns) = omega arith in
    ap (input_of room room) (all_counted 0 ns [] (omega arith) g) ∙ whole_of (sum_of 0 (total ns)) e
  where
    both : (b c : Bool) → c ≡ true → (b || c) ≡ true
    both true c e = refl
    both false c e = e

    whole_of : (more : ℕ) {n : ℕ} → sum_of room more ≡ n
        → input_of room room (Some more) ≡ record { kept = room; length = Ok n }
    whole_of more e = rw (both (eqb more 0) (eqb room room) (eq-eqb room room refl), e)

-- how an input that is whole ended
ends : (n room : ℕ) (how : Option ℕ) (l : ℕ) → n ≤ most_count → (input_of n room how).length ≡ Ok l
    → (l ≡ n) ⊎ ((n ≡ room) × (n ≤ l))
ends n room None l h e = absurd (cc)
ends n room (Some more) l h e = go (eqb more 0) (eqb n room) refl refl e
  where
    go : (a b : Bool) → eqb more 0 ≡ a → eqb n room ≡ b → ◌≡◌ {A = Result ℕ ℕ} (cond (a || b) (Ok (sum_of n more)) (Err (sum_of n more))) (Ok l)
        → (l ≡ n) ⊎ ((n ≡ room) × (n ≤ l))
    go true b x y e = let z : more ≡ 0 = eqb-true more 0 x in let f : sum_of n more ≡ l = cc in inl (omega arith)
    go false true x y e = let f : sum_of n more ≡ l = cc in inr (eqb-true n room y, omega arith)
    go false false x y e = absurd (cc)

pub whole_kept : WholeKept
whole_kept buffer r n l k w =
    ends r.kept (length buffer) k.how n (omega (arith, l, k.counts.0)) (sym (ap (λ (x : Input). x.length) k.is) ∙ w)

pub one_told : OneTold
one_told buffer r₁ r₂ a b e f =
    a.is ∙ ap (λ (n : ℕ). input_of n (length buffer) a.how) e ∙ ap (input_of r₂.kept (length buffer)) f ∙ sym b.is
