-- What slack covers stray inputs. Assumes nothing.
use mathlib.Core.Path.{◌≡◌, refl}
use mathlib.Core.List.{◌++◌}
use Prim.Native.Nat.{suc, ◌+◌}
use native.Mathlib.Omega.{arith}
use Rattle.model.specs.Table.{Table}
use Rattle.model.specs.Model.{input}
use Rattle.model.specs.Demands.{Wider, NoStray, OneStray, StrayAgain}
use Rattle.model.proofs.Inserted.{unchanged, put_in}

-- Nothing put in needs no slack.
pub no_stray : NoStray
no_stray T T' B c t wider = record { table = wider; waiting = omega arith; losses = omega arith; inputs = unchanged t }

-- Each stray input more is covered by one more of both.
pub stray_again : StrayAgain
stray_again T T' B c B' c' j a t xs ys l s =
    let e : j + 1 ≡ suc j = omega arith in
    record {
      table = s.table;
      waiting = omega (arith, s.waiting);
      losses = omega (arith, s.losses);
      inputs = rw e (put_in (input a) (a, l, refl) xs ys s.inputs);
    }

same : (T : Table) → Wider T T
same T = record { states = refl; inputs = refl; outputs = refl; agrees = λ s k s' i e. e }

-- One stray input is.
pub one_stray : OneStray
one_stray T B c a xs ys l = stray_again T T B c B c 0 a (xs ++ ys) xs ys l (no_stray T T B c (xs ++ ys) (same T))
