-- Of one input each function has one answer, and leaves one content of each memory. Assumes nothing.
use Rattle.std.specs.Prelude.{Ok, Err}
use mathlib.Core.Path.{◌≡◌, refl, sym, ap, ◌∙◌}
use mathlib.Core.Bool.{Bool, true, false}
use Rattle.table.specs.declared.answer.Refusal.{Refusal}
use Rattle.table.specs.Test.{Test}
use Rattle.session.specs.declared.Opened.{Opened}
use Rattle.monitor.specs.declared.feed.Fed.{Fed}
use Rattle.monitor.proofs.Laws.{one_feed}
use Rattle.lent.specs.Lent.{front}
use Rattle.sessiondoors.specs.Layout.{words_of, bytes_of, session_in}
use Rattle.sessiondoors.specs.Doors.{test_results}
use Rattle.sessiondoors.specs.Doors as doors
use Rattle.sessiondoors.specs.Laws.{OneOpening, OneFeeding}

-- memory is not both too short and long enough
pub not_both : {A : Type 0} {r : Bool} → r ≡ false → r ≡ true → A
not_both e f = cc

-- nothing is both passed and refused
not_passed : {A : Type 0} {t : Test} {why : Refusal} → t ≡ Err why → t ≡ Ok tt → A
not_passed e f = cc

pub one_opening : OneOpening
one_opening rows s i o B c w b t a₁ a₂ w₁ b₁ t₁ w₂ b₂ t₂ (doors.short e) (doors.short e') = (refl, refl, refl, refl)
one_opening rows s i o B c w b t a₁ a₂ w₁ b₁ t₁ w₂ b₂ t₂ (doors.short e) (doors.refused e' f k) = not_both e e'
one_opening rows s i o B c w b t a₁ a₂ w₁ b₁ t₁ w₂ b₂ t₂ (doors.short e) (doors.opens e' f k) = not_both e e'
one_opening rows s i o B c w b t a₁ a₂ w₁ b₁ t₁ w₂ b₂ t₂ (doors.refused e f k) (doors.short e') = not_both e' e
one_opening rows s i o B c w b t a₁ a₂ w₁ b₁ t₁ w₂ b₂ t₂ (doors.opens e f k) (doors.short e') = not_both e' e
one_opening rows s i o B c w b t a₁ a₂ w₁ b₁ t₁ w₂ b₂ t₂ (doors.refused {r = x} e f k) (doors.refused {r = y} e' f' k') =
    let same : x ≡ y = f ∙ sym f' in
    (refl, refl, refl, ap (λ (z : Opened). front t (test_results z.test)) same)
one_opening rows s i o B c w b t a₁ a₂ w₁ b₁ t₁ w₂ b₂ t₂ (doors.refused {r = x} e f k) (doors.opens {r = y} e' f' k') =
    not_passed k (ap (λ (z : Opened). z.test) (f ∙ sym f') ∙ k')
one_opening rows s i o B c w b t a₁ a₂ w₁ b₁ t₁ w₂ b₂ t₂ (doors.opens {r = x} e f k) (doors.refused {r = y} e' f' k') =
    not_passed k' (ap (λ (z : Opened). z.test) (f' ∙ sym f) ∙ k)
one_opening rows s i o B c w b t a₁ a₂ w₁ b₁ t₁ w₂ b₂ t₂ (doors.opens {r = x} e f k) (doors.opens {r = y} e' f' k') =
    let same : x ≡ y = f ∙ sym f' in (
      refl,
      ap (λ (z : Opened). front w (words_of z.session)) same,
      ap (λ (z : Opened). front b (bytes_of z.session)) same,
      ap (λ (z : Opened). front t (test_results z.test)) same,
    )

pub one_feeding : OneFeeding
one_feeding w b byte t a₁ a₂ w₁ b₁ t₁ w₂ b₂ t₂ (doors.short e) (doors.short e') = (refl, refl, refl, refl)
one_feeding w b byte t a₁ a₂ w₁ b₁ t₁ w₂ b₂ t₂ (doors.short e) (doors.fed e' f) = not_both e e'
one_feeding w b byte t a₁ a₂ w₁ b₁ t₁ w₂ b₂ t₂ (doors.fed e f) (doors.short e') = not_both e' e
one_feeding w b byte t a₁ a₂ w₁ b₁ t₁ w₂ b₂ t₂ (doors.fed {r = x} e f) (doors.fed {r = y} e' f') =
    let same : x ≡ y = one_feed (session_in w b) byte x y f f' in (
      refl,
      ap (λ (z : Fed). front w (words_of z.session)) same,
      ap (λ (z : Fed). front b (bytes_of z.session)) same,
      ap (λ (z : Fed). front t (test_results z.test)) same,
    )
