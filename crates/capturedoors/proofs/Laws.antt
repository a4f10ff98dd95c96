-- Every statement of specs/Laws.antt, proved. Assumes nothing.
use Rattle.std.specs.Prelude.{Some, None, Ok, Err}
use mathlib.Core.Path.{◌≡◌, refl, sym, ap, ◌∙◌}
use mathlib.Core.Bool.{Bool, true, false}
use Rattle.lent.specs.Lent.{front}
use lib.ListN.{length}
use borrow.Author.Tests.{leb-false, lt-leb}
use Rattle.capture.specs.Reading.{handed_at}
use Rattle.capture.specs.Refusals.{told, told_imported, told_taken}
use Rattle.capture.specs.declared.answer.Refusal.{Refusal}
use Rattle.capture.specs.declared.answer.Refusal.TheVariants.{Header, Record, Events, Event, Buffer}
use Rattle.capture.specs.Answers.{Imported, Taken}
use Rattle.capture.proofs.Laws.{one_import}
use Rattle.capturedoors.specs.Results.{import_size, import_results, hand_size}
use Rattle.capturedoors.specs.Results as doors
use Rattle.capturedoors.specs.Laws.{ImportingTellsOnePlace, HandingTellsOnePlace, ImportingFalse, HandingFalse, ImportingFalseKeeps, HandingFalseKeeps, OneImporting, OneHanding}

-- memory is not both too short and long enough
not_both : {A : Type 0} {r : Bool} → r ≡ false → r ≡ true → A
not_both e f = let h = sym e ∙ f in absurd (cc)

-- no refusal of a capture has a second place
one_place : (r : Refusal) → (told r).second ≡ 0
unfolding told
one_place Header = refl
one_place (Record _) = refl
one_place (Events _) = refl
one_place (Event _) = refl
one_place (Buffer _) = refl

pub importing_tells_one_place : ImportingTellsOnePlace
importing_tells_one_place s d t d' t' (doors.imports {r} e f) = go r
  where
    go : (r : Imported) → (told_imported r).second ≡ 0
    go (Ok _) = refl
    go (Err r) = one_place r

pub handing_tells_one_place : HandingTellsOnePlace
handing_tells_one_place s i t t' (doors.hands e) = go (handed_at s i).taken
  where
    go : (r : Taken) → (told_taken r).second ≡ 0
    go (Ok (Some _)) = refl
    go (Ok None) = refl
    go (Err r) = one_place r

pub importing_false : ImportingFalse
importing_false s d t a d' t' (doors.Importing.short e) = (λ _. leb-false import_size (length t) e, λ _. refl)
importing_false s d t a d' t' (doors.imports e f) = (λ h. not_both h refl, λ h. not_both (lt-leb import_size (length t) h) e)

pub handing_false : HandingFalse
handing_false s i t a t' (doors.Handing.short e) = (λ _. leb-false hand_size (length t) e, λ _. refl)
handing_false s i t a t' (doors.hands e) = (λ h. not_both h refl, λ h. not_both (lt-leb hand_size (length t) h) e)

pub importing_false_keeps : ImportingFalseKeeps
importing_false_keeps s d t d' t' (doors.Importing.short e) = (refl, refl)

pub handing_false_keeps : HandingFalseKeeps
handing_false_keeps s i t t' (doors.Handing.short e) = refl

pub one_importing : OneImporting
one_importing s d t a₁ a₂ d₁ t₁ d₂ t₂ (doors.Importing.short e) (doors.Importing.short e') = (refl, refl, refl)
one_importing s d t a₁ a₂ d₁ t₁ d₂ t₂ (doors.Importing.short e) (doors.imports e' f) = not_both e e'
one_importing s d t a₁ a₂ d₁ t₁ d₂ t₂ (doors.imports e f) (doors.Importing.short e') = not_both e' e
one_importing s d t a₁ a₂ d₁ t₁ d₂ t₂ (doors.imports {r = x} e f) (doors.imports {r = y} e' f') =
    let (same, memory) = one_import s d x y d₁ d₂ f f' in
    (refl, memory, ap (λ (z : Imported). front t (import_results z)) same)

pub one_handing : OneHanding
one_handing s i t a₁ a₂ t₁ t₂ (doors.Handing.short e) (doors.Handing.short e') = (refl, refl)
one_handing s i t a₁ a₂ t₁ t₂ (doors.Handing.short e) (doors.hands e') = not_both e e'
one_handing s i t a₁ a₂ t₁ t₂ (doors.hands e) (doors.Handing.short e') = not_both e' e
one_handing s i t a₁ a₂ t₁ t₂ (doors.hands e) (doors.hands e') = (refl, refl)
