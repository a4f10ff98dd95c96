-- What it means that a test passes. Assumes nothing.
use Rattle.std.specs.Prelude.{Ok}
use mathlib.Core.Path.{◌≡◌, refl}
use mathlib.Core.Bool.{true, false}
use mathlib.Core.Logic.{◌↔◌}
use Prim.Native.Nat.{ℕ, ◌+◌, ◌*◌}
use lib.Dec.{eqb, leb}
use borrow.Author.Tests.{leb-true, le-leb, eqb-true, eq-eqb}
use Rattle.model.specs.Limits.{most_states, most_inputs, most_outputs, most_waiting, most_losses, UpTo}
use Rattle.table.specs.Tests.{must, up_to, counts_test, length_test, bounds_test}
use Rattle.table.specs.Laws.{MustPasses, CountsPass, LengthPasses, BoundsPass}
use Rattle.table.specs.declared.answer.Refusal.{Refusal}
use Rattle.table.specs.declared.answer.Refusal.TheVariants.{Rows, States, Symbols, Waiting, Losses}
use Rattle.table.specs.Test.{Test}
use Rattle.table.proofs.Checks.{clash, both}

pub up_to_limit : (limit n : ℕ) → up_to limit n ≡ true ↔ UpTo limit n
up_to_limit limit n = (
  λ e. let (l, m) = both (leb 1 n) (leb n limit) e in (leb-true 1 n l, leb-true n limit m),
  λ (l, m). rw (le-leb 1 n l, le-leb n limit m),
)

pub must_passes : MustPasses
must_passes true r t = (λ e. (refl, e), λ (f, e). e)
must_passes false r t = (λ e. clash (cc), λ (f, e). clash (cc))

-- a count or a bound, before other tests and as the last
then_pass : (limit n : ℕ) (r : Refusal) {t : Test} {P : Type 0} → t ≡ Ok tt ↔ P → must (up_to limit n) r t ≡ Ok tt ↔ (UpTo limit n × P)
then_pass limit n r {t} p =
    let (to, from) = must_passes (up_to limit n) r t in
    (λ e. ((up_to_limit limit n).0 (to e).0, p.0 (to e).1), λ (u, q). from ((up_to_limit limit n).1 u, p.1 q))

last_pass : (limit n : ℕ) (r : Refusal) → must (up_to limit n) r (Ok tt) ≡ Ok tt ↔ UpTo limit n
last_pass limit n r =
    let (to, from) = must_passes (up_to limit n) r (Ok tt) in
    (λ e. (up_to_limit limit n).0 (to e).0, λ u. from ((up_to_limit limit n).1 u, refl))

pub counts_pass : CountsPass
unfolding counts_test
counts_pass s i o =
    let (to, from) = then_pass most_states s (States s) (then_pass most_inputs i (Symbols i) (last_pass most_outputs o (Symbols o))) in
    (λ e. let (u, (v, w)) = to e in (u, v, w), λ (u, v, w). from (u, (v, w)))

pub length_passes : LengthPasses
unfolding length_test
length_passes n s i o =
    let (to, from) = must_passes (eqb n (s * (i + o))) (Rows n) (Ok tt) in
    (λ e. eqb-true n (s * (i + o)) (to e).0, λ e. from (eq-eqb n (s * (i + o)) e, refl))

pub bounds_pass : BoundsPass
unfolding bounds_test
bounds_pass B c =
    let (to, from) = then_pass most_waiting B (Waiting B) (last_pass most_losses c (Losses c)) in
    (λ e. record { waiting = (to e).0; losses = (to e).1 }, λ b. from (b.waiting, b.losses))
