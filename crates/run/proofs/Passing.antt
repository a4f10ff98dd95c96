-- When the tests of a run pass. Assumes nothing.
use Rattle.std.specs.Prelude.{Option, Some, None, Ok}
use mathlib.Core.Path.{◌≡◌, refl, ap, ◌∙◌}
use mathlib.Core.Bool.{Bool, true, false}
use Prim.Native.Nat.{ℕ, ◌*◌}
use native.Mathlib.Omega.{arith}
use lib.Dec.{leb}
use lib.ListN.{length, get_or}
use borrow.Author.Tests.{leb-true, le-leb}
use Rattle.model.specs.Limits.{most_events}
use Rattle.table.specs.Bytes.{symbol_of}
use Rattle.table.specs.Tests.{must, is_invalid, events_test}
use Rattle.table.specs.declared.answer.Symbol.{Symbol}
use Rattle.table.specs.declared.answer.Symbol.TheVariants.{Input, Output}
use Rattle.table.specs.declared.answer.Refusal.{Refusal}
use Rattle.table.specs.declared.answer.Refusal.TheVariants.{Buffer}
use Rattle.table.proofs.Laws.{events_pass}
use Rattle.session.specs.Open.{then, opening}
use Rattle.session.proofs.Openings.{both_passed}
use Rattle.run.specs.Run.{limit_test, buffer_test, traced, run_test}
use Rattle.run.specs.Laws.{RunPasses, RoomDecides}

-- what the test of a symbol says
not_invalid : (x : Option Symbol) → (x ≡ None → ⊥) → is_invalid x ≡ false
not_invalid (Some (Input a)) h = refl
not_invalid (Some (Output a)) h = refl
not_invalid None h = absurd (h refl)

is_valid : (x : Option Symbol) → is_invalid x ≡ false → x ≡ None → ⊥
is_valid (Some (Input a)) e f = let z : ◌≡◌ {A = ℕ} 0 1 = cc in omega arith
is_valid (Some (Output a)) e f = let z : ◌≡◌ {A = ℕ} 0 1 = cc in omega arith
is_valid None e f = let z : ◌≡◌ {A = ℕ} 0 1 = cc in omega arith

must_true : (b : Bool) (r : Refusal) → must b r (Ok tt) ≡ Ok tt → b ≡ true
must_true true r e = refl
must_true false r e = absurd (let z : ◌≡◌ {A = ℕ} 0 1 = cc in omega arith)

-- Where all else is good, only the buffer decides.
pub room_decides : RoomDecides
unfolding run_test
room_decides rows s i o B c trace room e g =
    let valid : events_test trace i o ≡ Ok tt = (events_pass trace i o).1 (λ k l. not_invalid (symbol_of (get_or trace k 0) i o) (g.valid k l)) in
    rw (e, le-leb (length trace) most_events g.few, valid)

-- A run is refused exactly when its opening would be, its trace is not good, or its buffer is too short.
pub run_passes : RunPasses
unfolding run_test
run_passes rows s i o B c trace room = (
  λ e.
      let (a, e₁) = both_passed (opening rows s i o B c) (traced trace i o room) e in
      let (b, e₂) = both_passed (limit_test (length trace)) (then (events_test trace i o) (buffer_test (length trace) room)) e₁ in
      let (d, f) = both_passed (events_test trace i o) (buffer_test (length trace) room) e₂ in (
        a,
        record {
          few = leb-true (length trace) most_events (must_true (leb (length trace) most_events) _ b);
          valid = λ k l. is_valid (symbol_of (get_or trace k 0) i o) ((events_pass trace i o).0 d k l);
        },
        leb-true (12 * length trace) room (must_true (leb (12 * length trace) room) _ f),
      ),
  λ (a, g, f). room_decides rows s i o B c trace room a g ∙ ap (λ (b : Bool). must b (Buffer (12 * length trace)) (Ok tt)) (le-leb (12 * length trace) room f),
)
