-- A block passes its tests exactly when it is good. Assumes nothing.
use Rattle.std.specs.Prelude.{Option, Some, None, Ok}
use mathlib.Core.Path.{◌≡◌, refl}
use mathlib.Core.Bool.{true, false}
use mathlib.Core.List.{List}
use mathlib.Core.Logic.{◌↔◌, ◌⊎◌}
use Prim.Native.Nat.{ℕ, ◌+◌, ◌≤◌, ◌<◌}
use native.Mathlib.Omega.{arith}
use Rattle.std.proofs.lemmas.Bool.Decides.{nat_tests}
use borrow.Author.Tests.{eqb-true, eq-eqb}
use Rattle.table.proofs.Checks.{clash}
use Rattle.table.proofs.Laws.{found_none, found_first}
use Rattle.table.specs.First.{first}
use Rattle.flaw.proofs.Laws.{no_flaw}
use Rattle.block.specs.Limits.{payload_at, check_at, room, setup_kind, row_kind, event_kind, setup_size}
use Rattle.block.specs.Block.{byte, byte_one, kind, number, used, source, stored, check, stray, GoodBlock, kind_fits, order_fits, used_fits, source_fits, unless_stray, fill_of, seen, block_test}
use Rattle.block.specs.Laws.{FirstStray, BlockPasses}

-- THE FIELDS

kind_fit : (k x : ℕ) → kind_fits k x ≡ true ↔ ((k ≡ 0 → x ≡ setup_kind) × (0 < k → (x ≡ row_kind) ⊎ (x ≡ event_kind)))
kind_fit k x = (λ e. (λ z. grind (arith, nat_tests), λ l. grind (arith, nat_tests)), λ (f, g). grind (arith, nat_tests))

order_fit : (x q u : ℕ) → order_fits x q u ≡ true ↔ ((q ≤ x) × (x ≡ q → u ≡ room))
order_fit x q u = (λ e. (grind (arith, nat_tests), λ z. grind (arith, nat_tests)), λ (l, f). grind (arith, nat_tests))

used_fit : (k x : ℕ) → used_fits k x ≡ true ↔ ((k ≡ 0 → x ≡ setup_size) × (0 < k → (1 ≤ x) × (x ≤ room)))
used_fit k x = (λ e. (λ z. grind (arith, nat_tests), λ l. (grind (arith, nat_tests), grind (arith, nat_tests))), λ (f, g). grind (arith, nat_tests))

source_fit : (k x : ℕ) → source_fits k x ≡ true ↔ (k ≡ 0 → x ≤ 1)
source_fit k x = (λ e z. grind (arith, nat_tests), λ f. grind (arith, nat_tests))

not_stray : (b : List ℕ) (i : ℕ) → stray b i ≡ false ↔ (payload_at + used b ≤ i → byte b i ≡ 0)
not_stray b i = (λ e l. grind (arith, nat_tests), λ f. grind (arith, nat_tests))

pub first_stray : FirstStray
unfolding fill_of
first_stray b i = (
  λ e. (found_first (stray b) check_at i).0 (go (first (stray b) check_at) e),
  λ h. rw ((found_first (stray b) check_at i).1 h),
)
  where
    go : (o : Option ℕ) → unless_stray o ≡ Some i → o ≡ Some i
    go None e = clash (cc)
    go (Some j) e = cc

none_stray : (o : Option ℕ) → unless_stray o ≡ None → o ≡ None
none_stray None e = refl
none_stray (Some i) e = clash (cc)

-- ONE BLOCK

module _ (b : List ℕ) (k : ℕ) (a : List ℕ) where
  to : block_test b k a ≡ Ok tt → GoodBlock b k a
  unfolding block_test seen fill_of
  to e =
      let ((((c, kind_right, order_right), one, n), used_right), source_right, f) = (no_flaw (seen b k a)).0 e in
      let kinds = (kind_fit k (kind b)).0 kind_right in
      let order = (order_fit (kind b) (kind a) (used a)).0 order_right in
      let uses = (used_fit k (used b)).0 used_right in
      record {
        checked = eqb-true _ _ c;
        first_kind = kinds.0;
        later_kind = kinds.1;
        ordered = order.0;
        full = order.1;
        zero_one = eqb-true _ _ one;
        numbered = eqb-true _ _ n;
        first_used = uses.0;
        later_used = uses.1;
        sourced = (source_fit k (source b)).0 source_right;
        filled = λ i l m. (not_stray b i).0 ((found_none (stray b) check_at).0 (none_stray _ f) i m) l;
      }

  from : GoodBlock b k a → block_test b k a ≡ Ok tt
  unfolding block_test seen fill_of
  from g =
      (no_flaw (seen b k a)).1 (
        (
          (
            (
              eq-eqb (check b) (stored b) g.checked,
              (kind_fit k (kind b)).1 (g.first_kind, g.later_kind),
              (order_fit (kind b) (kind a) (used a)).1 (g.ordered, g.full),
            ),
            eq-eqb (byte_one b) 0 g.zero_one,
            eq-eqb (number b) k g.numbered,
          ),
          (used_fit k (used b)).1 (g.first_used, g.later_used),
        ),
        (source_fit k (source b)).1 g.sourced,
        rw ((found_none (stray b) check_at).1 (λ i l. (not_stray b i).1 (λ m. g.filled i m l))),
      )

pub block_passes : BlockPasses
block_passes b k a = (to b k a, from b k a)
