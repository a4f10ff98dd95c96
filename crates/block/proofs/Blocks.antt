-- Laws of one block: what it holds, its check and its zero fill. Assumes nothing.
use Rattle.std.proofs.Common.{◌≡◌, refl, sym, ap, ◌∙◌, Bool, false, not, List, [], ℕ, zero, suc, ◌+◌, ◌*◌, ◌-◌, ◌≤◌, ◌<◌, ◌==◌, min, length, take, drop, get_or, add-one, arith}
use Rattle.std.specs.Prelude.{Some, None, position}
use Rattle.std.specs.List.{position_or_len}
use Rattle.std.proofs.Math.Nat.{add-zero, add-suc}
use Rattle.std.proofs.Math.ListN.{get_or-eq_default, length-take}
use Rattle.std.proofs.lemmas.Grind.{common_steps}
use Rattle.std.proofs.lemmas.List.{get_or-take, get_or-drop}
use Rattle.std.proofs.lemmas.List.Quantifiers.{position-Some}
use Rattle.std.proofs.lemmas.List.Sums.{fails_before_first}
use Rattle.std.proofs.lemmas.Bool.Decides.{nat_tests}
use native.Mathlib.Decide.{dec_le}
use borrow.Author.Tests.{eq-eqb, ne_eqb, le-leb}
use Rattle.table.proofs.Laws.{found_none, found_first}
use Rattle.block.specs.Limits.{payload_at, check_at}
use Rattle.block.specs.Block.{byte, kind, used, payload, share, stray, weighed, fill_of}

-- WHAT IT HOLDS

pub share_own : (b : List ℕ) (q : ℕ) → kind b ≡ q → share q b ≡ payload b
share_own b q e = simp (eq-eqb _ _ e)

pub share_none : (b : List ℕ) (q : ℕ) → (kind b ≡ q → ⊥) → share q b ≡ []
share_none b q n = simp (ne_eqb _ _ n)

-- THE CHECK

pub weighed_none : (b : List ℕ) → weighed b 0 ≡ 0
unfolding weighed
weighed_none b = refl

-- one byte more of the part p that is weighed
pub weighed_more : (b p : List ℕ) (i x : ℕ) → p ≡ take check_at b → i < length p → x ≡ get_or p i 0
    → weighed b (i + 1) ≡ weighed b i + (i + 1) * x
unfolding weighed
weighed_more b p i x e l f =
    let m : i < check_at = omega (arith, ap length e, length-take check_at b) in
    ap (weighed b) (add-one i) ∙ ap (λ (y : ℕ). weighed b i + (i + 1) * y) (sym (f ∙ ap (λ (z : List ℕ). get_or z i 0) e ∙ get_or-take check_at b i 0 m))

-- past the end nothing is added
pub weighed_past : (b : List ℕ) (i m : ℕ) → length b ≤ i → weighed b (i + m) ≡ weighed b i
unfolding weighed
weighed_past b i zero h = rw add-zero
weighed_past b i (suc m) h =
    let l : length b ≤ i + m = omega arith in
    rw (add-suc, weighed_past b i m h, get_or-eq_default b 0 l) (omega arith)

pub weighed_all : (b : List ℕ) (n i : ℕ) → i ≡ min n (length b) → weighed b i ≡ weighed b n
weighed_all b n i e =
    elim (dec_le n (length b)) [
      | yes h ↦ let f : i ≡ n = omega arith in rw f
      | no h ↦ let f : n ≡ i + (n - i) = omega arith in sym (rw f (weighed_past b i (n - i) (omega arith)))
    ]

-- ZERO FILL

abbrev set : ℕ → Bool
set x = not (x == 0)

-- the part p of the block from its zero fill's start up to the check
module _ (b p : List ℕ) (u : ℕ) (e : u ≡ used b) (f : p ≡ take (check_at - (payload_at + u)) (drop (payload_at + u) b)) where
  abbrev n : ℕ
  n = payload_at + u

  at : (i : ℕ) → n + i < check_at → get_or p i 0 ≡ byte b (n + i)
  at i l =
      let m : i < check_at - n = omega arith in
      ap (λ (z : List ℕ). get_or z i 0) f ∙ get_or-take (check_at - n) (drop n b) i 0 m ∙ get_or-drop n b i 0

  clean : (i : ℕ) → ((k : ℕ) → k < i → get_or p k 0 ≡ 0) → (j : ℕ) → j < n + i → j < check_at → stray b j ≡ false
  clean i h j l m =
      elim (dec_le n j) [
        | yes g ↦
            let q : n + (j - n) ≡ j = omega arith in
            let z : byte b j ≡ 0 = rw q at (sym (at (j - n) (omega arith)) ∙ h (j - n) (omega arith)) in
            grind (arith, nat_tests)
        | no g ↦ grind (arith, nat_tests)
      ]

  unset : (k : ℕ) → set (get_or p k 0) ≡ false → get_or p k 0 ≡ 0
  unset k h = grind arith

  -- no byte is set, in the part or past the slice's end
  pub fill_none : None ≡ position set p → None ≡ fill_of b
  unfolding fill_of
  fill_none g =
      let all : length p ≤ position_or_len set p = grind (arith, common_steps) in
      let zero : (k : ℕ) → k < check_at → get_or p k 0 ≡ 0 = λ k l. elim (dec_le (length p) k) [
        | yes m ↦ get_or-eq_default p 0 m
        | no m ↦ unset k (fails_before_first set p k 0 (omega arith))
      ] in
      rw ((found_none (stray b) check_at).1 (λ j l. clean check_at zero j (omega arith) l))

  -- the first one
  pub fill_at : (i : ℕ) → Some i ≡ position set p → Some (n + i) ≡ fill_of b
  unfolding fill_of
  fill_at i g =
      let (l, s, h) = position-Some set p i 0 (sym g) in
      let m : n + i < check_at = omega (arith, ap length f, length-take (check_at - n) (drop n b)) in
      let r : payload_at + used b ≤ n + i = omega arith in
      rw ((found_first (stray b) check_at (n + i)).1 (
        m,
        rw (le-leb _ _ r) (rw (at i m) at s),
        λ j k. clean i (λ k l. unset k (h k l)) j k (omega arith),
      ))
