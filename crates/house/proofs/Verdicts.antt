-- Laws of the tests in their order. Assumes nothing.
use Rattle.std.specs.Prelude.{Ok, Err}
use mathlib.Core.Path.{◌≡◌, refl, sym, ap, ◌∙◌}
use mathlib.Core.Bool.{Bool, true, false}
use mathlib.Core.List.{List}
use Prim.Native.Nat.{ℕ, zero, suc, ◌+◌, ◌-◌, ◌<◌}
use native.Mathlib.Nat.{add-zero, add-suc}
use native.Mathlib.Numerals.{add-one}
use native.Mathlib.Omega.{arith}
use Rattle.table.proofs.Checks.{clash}
use Rattle.table.specs.Test.{Test}
use Rattle.block.specs.Block.{block_test}
use Rattle.flaw.specs.Test.{Test as BlockTest}
use Rattle.house.specs.Verdicts.{must, of_block, of_table, is_passed, then}
use Rattle.house.specs.File.{block_at, block_before}
use Rattle.house.specs.Reading.{blocks_test}
use Rattle.house.specs.declared.answer.Refusal.{Refusal}
use Rattle.house.specs.Verdict.{Verdict}

-- ONE TEST AND THE REST

pub all_passed : (v : Verdict) → is_passed v ≡ true → v ≡ Ok tt
all_passed (Ok _) e = refl
all_passed (Err r) e = clash (cc)

-- what passes
pub must_passed : (b : Bool) (r : Refusal) → must b r ≡ Ok tt → b ≡ true
must_passed true r e = refl
must_passed false r e = clash (cc)

pub block_passed : (t : BlockTest) (k : ℕ) → of_block t k ≡ Ok tt → t ≡ Ok tt
block_passed (Ok _) k e = refl
block_passed (Err f) k e = clash (cc)

pub table_passed : (t : Test) → of_table t ≡ Ok tt → t ≡ Ok tt
table_passed (Ok _) e = refl
table_passed (Err r) e = clash (cc)

pub then_passed : (v w : Verdict) → then v w ≡ Ok tt → (v ≡ Ok tt) × (w ≡ Ok tt)
then_passed (Ok _) w e = (refl, e)
then_passed (Err r) w e = clash (cc)

-- THE TESTS OF THE BLOCKS

-- block k as the code looks at it
pub seen : (s b a : List ℕ) (k j : ℕ) {t : BlockTest} {v : Verdict} → j ≡ k → b ≡ block_at s k → a ≡ block_before s k
    → t ≡ block_test b j a → v ≡ of_block t j → v ≡ of_block (block_test (block_at s k) k (block_before s k)) k
seen s b a k j d e f g h = h ∙ rw (g, d, e, f)

-- a block refused is the answer of every longer file
module _ (s : List ℕ) where
  pub blocks_none : blocks_test s 0 ≡ Ok tt
  unfolding blocks_test
  blocks_none = refl

  block_more : (k : ℕ) {v : Verdict} → blocks_test s k ≡ Ok tt → v ≡ of_block (block_test (block_at s k) k (block_before s k)) k
      → blocks_test s (k + 1) ≡ v
  unfolding blocks_test
  block_more k e f = ap (blocks_test s) (add-one k) ∙ rw (e, f)

  pub blocks_good : (k : ℕ) (v : Verdict) → blocks_test s k ≡ Ok tt
      → v ≡ of_block (block_test (block_at s k) k (block_before s k)) k → is_passed v ≡ true → blocks_test s (k + 1) ≡ Ok tt
  blocks_good k v e f g = block_more k e f ∙ all_passed v g

  stays : (k m : ℕ) (r : Refusal) → blocks_test s k ≡ Err r → blocks_test s (k + m) ≡ Err r
  unfolding blocks_test
  stays k zero r e = rw add-zero e
  stays k (suc m) r e = rw (add-suc, stays k m r e)

  pub blocks_bad : (k n : ℕ) (v : Verdict) → k < n → blocks_test s k ≡ Ok tt
      → v ≡ of_block (block_test (block_at s k) k (block_before s k)) k → is_passed v ≡ false → v ≡ blocks_test s n
  blocks_bad k n (Ok _) h e f g = clash (cc)
  blocks_bad k n (Err r) h e f g =
      let i : k + 1 + (n - (k + 1)) ≡ n = omega arith in
      sym (ap (blocks_test s) (sym i) ∙ stays (k + 1) (n - (k + 1)) r (block_more k e f))
