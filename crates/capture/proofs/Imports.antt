-- Laws of a whole import: when it is good, what it refuses, and what it leaves. Assumes nothing.
use Rattle.std.specs.Prelude.{Ok, is_ok}
use mathlib.Core.Path.{◌≡◌, refl, sym, ◌∙◌, ap}
use mathlib.Core.Bool.{Bool, true, false}
use mathlib.Core.List.{List}
use Prim.Native.Nat.{ℕ, ◌≤◌}
use lib.Dec.{eqb, leb}
use borrow.Author.Tests.{eqb-true, leb-true, eq-eqb, le-leb}
use Rattle.model.specs.Limits.{most_events}
use Rattle.capture.specs.Capture.{headed, records, right_at, layout_at, GoodCapture}
use Rattle.capture.specs.Importing.{right_records, layout_records, verdict, imported}
use Rattle.capture.specs.declared.answer.Refusal.{Refusal}
use Rattle.capture.specs.Answers.{Imported, must}
use Rattle.capture.proofs.Passing.{passing_all, all_pass}

-- THE TESTS

-- an import is good where a test passes and the others are good
must_good : (b : Bool) (r : Refusal) (x : Imported) → is_ok (must b r x) ≡ true → (b ≡ true) × (is_ok x ≡ true) × (must b r x ≡ x)
must_good true r x e = (refl, e, refl)
must_good false r x e = absurd (cc)

-- what a good import says of its figures
pub record Passed (head : Bool) (n right layout room : ℕ) : Type 0 where
  pub header : head ≡ true
  pub lengths : right ≡ n
  pub few : n ≤ most_events
  pub layout_all : layout ≡ n
  pub fits : n ≤ room

module _ (h : Bool) (n t l room : ℕ) where
  pub verdict_good : is_ok (verdict h n t l room) ≡ true → Passed h n t l room × (verdict h n t l room ≡ Ok n)
  unfolding verdict
  verdict_good e =
      let (a, e₁, f₁) = must_good h _ _ e in
      let (b, e₂, f₂) = must_good (eqb t n) _ _ e₁ in
      let (c, e₃, f₃) = must_good (leb n most_events) _ _ e₂ in
      let (d, e₄, f₄) = must_good (eqb l n) _ _ e₃ in
      let (g, e₅, f₅) = must_good (leb n room) _ _ e₄ in (
        record {
          header = a;
          lengths = eqb-true t n b;
          few = leb-true n most_events c;
          layout_all = eqb-true l n d;
          fits = leb-true n room g;
        },
        f₁ ∙ f₂ ∙ f₃ ∙ f₄ ∙ f₅,
      )

  pub verdict_passes : Passed h n t l room → verdict h n t l room ≡ Ok n
  unfolding verdict
  verdict_passes p =
      simp (
        p.header,
        eq-eqb t n p.lengths,
        le-leb n most_events p.few,
        eq-eqb l n p.layout_all,
        le-leb n room p.fits,
      )

-- A GOOD CAPTURE

module _ (s : List ℕ) (room : ℕ) where
  pub good_capture : is_ok (imported s room) ≡ true → GoodCapture s × (records s ≤ room) × (imported s room ≡ Ok (records s))
  unfolding imported
  good_capture e =
      let (p, f) = verdict_good (headed s) (records s) (right_records s) (layout_records s) room e in (
        record {
          header = p.header;
          lengths = all_pass (right_at s) (records s) p.lengths;
          few = p.few;
          layout = all_pass (layout_at s) (records s) p.layout_all;
        },
        p.fits,
        f,
      )

  pub capture_good : GoodCapture s → records s ≤ room → imported s room ≡ Ok (records s)
  unfolding imported
  capture_good g l =
      verdict_passes (headed s) (records s) (right_records s) (layout_records s) room
      (record {
        header = g.header;
        lengths = sym (passing_all (right_at s) (records s) g.lengths);
        few = g.few;
        layout_all = sym (passing_all (layout_at s) (records s) g.layout);
        fits = l;
      })

  -- there is room for what a good import writes
  pub room_for : (n : ℕ) → imported s room ≡ Ok n → records s ≤ room
  room_for n e = (good_capture (ap is_ok e)).1
