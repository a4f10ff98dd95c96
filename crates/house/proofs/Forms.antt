-- A file of blocks passes its tests exactly when it is good. Assumes nothing.
use Rattle.std.specs.Prelude.{Ok}
use mathlib.Core.Path.{◌≡◌, refl}
use mathlib.Core.List.{List}
use mathlib.Core.Logic.{⊎_elim}
use Prim.Native.Nat.{ℕ, zero, suc, ◌%◌, ◌≤◌, ◌<◌}
use native.Mathlib.Nat.{eq-or-lt_of_le}
use native.Mathlib.Omega.{arith}
use lib.Dec.{leb}
use lib.ListN.{length}
use borrow.Author.Tests.{eqb-true, eq-eqb, leb-true, le-leb}
use Rattle.table.proofs.Checks.{both}
use Rattle.block.specs.Limits.{block_size}
use Rattle.block.specs.Block.{block_test}
use Rattle.flaw.specs.Test.{Test}
use Rattle.block.proofs.Laws.{block_passes}
use Rattle.house.specs.Limits.{most_bytes}
use Rattle.house.specs.Verdicts.{must}
use Rattle.house.specs.File.{block_at, blocks, block_before}
use Rattle.house.specs.Reading.{is_whole, blocks_test, form_test}
use Rattle.house.specs.Laws.{FormPasses}
use Rattle.house.specs.declared.answer.Refusal.TheVariants.{Length}
use Rattle.house.proofs.Verdicts.{must_passed, block_passed, then_passed}

-- ALL BLOCKS

module _ (s : List ℕ) where
  abbrev pub at_block : ℕ → Test
  at_block k = block_test (block_at s k) k (block_before s k)

  pub each : (n : ℕ) → blocks_test s n ≡ Ok tt → (k : ℕ) → k < n → at_block k ≡ Ok tt
  unfolding blocks_test
  each zero e k l = absurd (omega arith)
  each (suc n) e k l =
      let (p, r) = then_passed (blocks_test s n) _ e in
      let m : k ≤ n = omega arith in
      ⊎_elim (λ z. rw z (block_passed _ n r)) (λ l'. each n p k l') (eq-or-lt_of_le m)

  pub all : (n : ℕ) → ((k : ℕ) → k < n → at_block k ≡ Ok tt) → blocks_test s n ≡ Ok tt
  unfolding blocks_test
  all zero h = refl
  all (suc n) h = rw (all n (λ k l. h k (omega arith)), h n (omega arith))

pub form_passes : FormPasses
unfolding form_test
form_passes s = (
  λ e.
      let (w, t) = then_passed (must (is_whole (length s)) (Length (length s))) _ e in
      let (l, m) = both (leb 1 (length s)) _ (must_passed _ (Length (length s)) w) in
      let (n, z) = both (leb (length s) most_bytes) _ m in
      let z' = eqb-true (length s % block_size) 0 z in
      record {
        counted = (omega (arith, leb-true 1 (length s) l), omega (arith, leb-true (length s) most_bytes n));
        whole = omega arith;
        good = λ k h. (block_passes (block_at s k) k _).0 (each s (blocks s) t k h);
      },
  λ g.
      let l : 1 ≤ length s = omega (arith, g.counted, g.whole) in
      let m : length s ≤ most_bytes = omega (arith, g.counted, g.whole) in
      let n : length s % block_size ≡ 0 = omega (arith, g.whole) in
      rw (le-leb _ _ l, le-leb _ _ m, eq-eqb _ _ n) (all s (blocks s) (λ k h. (block_passes (block_at s k) k _).1 (g.good k h))),
)
