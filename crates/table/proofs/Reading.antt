-- Reading row by row: the entry in row s and column k is number s * width + k. Assumes nothing.
use Rattle.std.specs.Prelude.{Option, None, Ok, Err}
use mathlib.Core.Path.{◌≡◌, sym, ◌∙◌, ap}
use mathlib.Core.Bool.{Bool, true}
use mathlib.Core.List.{List}
use Prim.Native.Nat.{ℕ, ◌+◌, ◌*◌, ◌<◌}
use lib.Arith.{digits_lt, digits_div, digits_mod}
use Rattle.model.specs.Table.{Table, width, entry}
use Rattle.table.specs.Bytes.{table_of, next_of, leads_out}
use Rattle.table.specs.First.{first}
use Rattle.table.specs.Tests.{bad, entries_test}
use Rattle.table.specs.declared.answer.Refusal.TheVariants.{Entry}
use Rattle.table.proofs.Bytes.{looked_up}
use Rattle.table.proofs.First.{found}

module _ (T : Table) where
  pub bad_at : (s k : ℕ) → k < width T → bad T (s * width T + k) ≡ leads_out T.states ((entry T s k))
  unfolding bad
  bad_at s k h = rw (digits_div s h, digits_mod s h)

  -- none of all the entries is bad; or this one is, and none before it
  pub none_bad : first (bad T) (T.states * width T) ≡ None → entries_test T ≡ Ok tt
  unfolding entries_test
  none_bad e = rw e

  pub first_bad : (s k : ℕ) → s < T.states → k < width T → first (bad T) (s * width T + k) ≡ None → bad T (s * width T + k) ≡ true
      → entries_test T ≡ Err (Entry s k)
  unfolding entries_test
  first_bad s k l h e f = rw (found (bad T) (T.states * width T) e f (digits_lt {q = s} l h), digits_div s h, digits_mod s h)

-- What the code computes of an entry is whether it is bad.
pub bad_seen : (rows : List ℕ) (states i o s k : ℕ) (n : Option ℕ) {b : Bool} → k < i + o → n ≡ next_of rows i o s k → b ≡ leads_out states n
    → bad (table_of rows states i o) (s * (i + o) + k) ≡ b
bad_seen rows states i o s k n h e f =
    let T = table_of rows states i o in
    bad_at T s k h ∙ sym (f ∙ ap (leads_out states) (e ∙ looked_up T s k))
