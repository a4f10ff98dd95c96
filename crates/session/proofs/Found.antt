-- Whether a set holds anything, told from its words. Assumes nothing.
use mathlib.Core.Path.{◌≡◌, refl}
use mathlib.Core.Bool.{true, false}
use mathlib.Core.List.{List}
use mathlib.Core.Logic.{⊎_elim}
use Prim.Native.Nat.{ℕ, ◌+◌, ◌*◌, ◌/◌, ◌%◌}
use native.Mathlib.Omega.{arith}
use lib.ListN.{length}
use Rattle.model.specs.Model.{Config, cfg}
use Rattle.states.specs.In.{AnyOf, Empty}
use Rattle.states.proofs.Same.{none_or_any}
use Rattle.session.specs.Sets.{Holds}
use Rattle.session.specs.Laws.{FindsUnlessEmpty}

module _ (set : List ℕ) (len : length set ≡ 264) where
  held_one : (s : ℕ) × AnyOf (length set) set s → (x : Config ℕ) × Holds set x
  held_one (s, a) =
      let k = a.word in
      let l = a.small in
      let e : 8 * (k / 8) + k % 8 ≡ k = omega arith in
      (cfg s (k / 8) (k % 8), record { waiting = omega arith; run = omega arith; member = rw e a.here })

  held_none : Empty set → (x : Config ℕ) → Holds set x → ⊥
  held_none n x i =
      let w = i.waiting in
      let r = i.run in
      n (8 * x.waiting + x.run) x.state (omega arith) i.member

-- Words of which none has a state hold nothing, and others a configuration, given here.
pub finds_unless_empty : FindsUnlessEmpty
finds_unless_empty set true len d = record { yes = λ f. cc; no = λ f. held_none set len (d.yes refl) }
finds_unless_empty set false len d =
    record { yes = λ f. ⊎_elim (λ n. absurd (d.no refl n)) (held_one set len) (none_or_any (length set) set); no = λ f. cc }
