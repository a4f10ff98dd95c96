-- What the tests of an opening say of table and bounds. Assumes nothing.
use Rattle.std.specs.Prelude.{Ok, Err}
use mathlib.Core.Path.{◌≡◌, refl}
use mathlib.Core.List.{List}
use mathlib.Core.Logic.{◌↔◌}
use Prim.Native.Nat.{ℕ, ◌+◌, ◌≤◌}
use native.Mathlib.Nat.{mul-le-mul}
use native.Mathlib.Omega.{arith}
use lib.ListN.{length}
use Rattle.model.specs.Table.{Valid, Bounded}
use Rattle.table.specs.Bytes.{table_of}
use Rattle.table.specs.Tests.{counts_test, length_test, entries_test, bounds_test}
use Rattle.table.specs.Test.{Test}
use Rattle.table.proofs.Laws.{counts_pass, table_passes, bounds_pass}
use Rattle.session.specs.Open.{then, counted, opening}

pub both_passed : (a b : Test) → then a b ≡ Ok tt → (a ≡ Ok tt) × (b ≡ Ok tt)
both_passed (Ok _) b e = (refl, e)
both_passed (Err r) b e = cc

-- counts that pass are small
pub small_counts : (s i o : ℕ) → counts_test s i o ≡ Ok tt → (s ≤ 64) × (i ≤ 16) × (o ≤ 16)
small_counts s i o e = let (a, b, c) = (counts_pass s i o).0 e in (a.1, b.1, c.1)

-- An opening passes exactly with a valid table and bounds within the limits.
pub opening_passes : (rows : List ℕ) (s i o B c : ℕ) → opening rows s i o B c ≡ Ok tt ↔ (Valid (table_of rows s i o) × Bounded B c)
unfolding opening
opening_passes rows s i o B c = (
  (λ e.
      let (a, e₁) = both_passed (counts_test s i o) (counted rows s i o B c) e in
      let (b, e₂) = both_passed (length_test (length rows) s i o) (then (entries_test (table_of rows s i o)) (bounds_test B c)) e₁ in
      let (d, f) = both_passed (entries_test (table_of rows s i o)) (bounds_test B c) e₂ in
      ((table_passes (table_of rows s i o)).0 (a, b, d), (bounds_pass B c).0 f)),
  (λ (v, w).
      let (a, b, d) = (table_passes (table_of rows s i o)).1 v in
      rw (a, b, d) ((bounds_pass B c).1 w)),
)

-- so what passes is small
pub record Small (s i o B c : ℕ) : Type 0 where
  pub states : s ≤ 64
  pub inputs : i ≤ 16
  pub outputs : o ≤ 16
  pub waiting : B ≤ 32
  pub losses : c ≤ 8

pub small_opening : (rows : List ℕ) (s i o B c : ℕ) → opening rows s i o B c ≡ Ok tt → Small s i o B c
small_opening rows s i o B c e =
    let (v, b) = (opening_passes rows s i o B c).0 e in
    record { states = v.states.1; inputs = v.inputs.1; outputs = v.outputs.1; waiting = b.waiting.1; losses = b.losses.1 }

-- and its rows are few
pub few_rows : (rows : List ℕ) (s i o B c : ℕ) → opening rows s i o B c ≡ Ok tt → length rows ≤ 2048
few_rows rows s i o B c e =
    let (v, b) = (opening_passes rows s i o B c).0 e in
    omega (arith, v.rows, mul-le-mul {n₂ = 64} {m₂ = 32} v.states.1 (let w : i + o ≤ 32 = omega (arith, v.inputs.1, v.outputs.1) in w))
