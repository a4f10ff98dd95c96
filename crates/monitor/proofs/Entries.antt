-- Where a column of packed rows leads is what the table's entry says. Assumes nothing.
use Rattle.std.specs.Prelude.{Option, Some, None}
use mathlib.Core.Path.{◌≡◌, refl, sym, ap, ◌∙◌}
use mathlib.Core.List.{List}
use mathlib.Core.Bool.{Bool, true, false, cond}
use Prim.Native.Nat.{ℕ, ◌<◌}
use native.Mathlib.Omega.{arith}
use lib.Dec.{eqb}
use borrow.Author.Tests.{eqb-true}
use Rattle.model.specs.Table.{Table, Valid, width, byte, entry}
use Rattle.states.specs.Rows.{Leads}
use Rattle.monitor.specs.Sweep.{Packed}

module _ (T : Table) (rows : List ℕ) (valid : Valid T) (packed : Packed T rows) (s k t : ℕ) (state : s < T.states) (column : k < width T) where
  -- a byte that is a next state is no 255
  of_byte : (b : Bool) → eqb (byte T s k) 255 ≡ b → byte T s k < 64 → cond {A = Option ℕ} b None (Some (byte T s k)) ≡ Some (byte T s k)
  of_byte true e l = absurd (omega (arith, eqb-true (byte T s k) 255 e))
  of_byte false e l = refl

  pub of_leads : Leads rows (width T) k s t → entry T s k ≡ Some t
  unfolding entry
  of_leads l =
      let e : byte T s k ≡ t = sym (packed s k state column) ∙ l.byte in
      of_byte (eqb (byte T s k) 255) refl (omega (arith, e, l.state)) ∙ ap Some e

  some_byte : (b : Bool) → cond {A = Option ℕ} b None (Some (byte T s k)) ≡ Some t → byte T s k ≡ t
  some_byte true e = absurd (let z : ◌≡◌ {A = ℕ} 0 1 = cc in omega arith)
  some_byte false e = cc

  pub leads : entry T s k ≡ Some t → Leads rows (width T) k s t
  unfolding entry
  leads e =
      record {
        byte = packed s k state column ∙ some_byte (eqb (byte T s k) 255) e;
        state = omega (arith, valid.entries s k t state column e, valid.states);
      }
