-- Every statement of specs/Laws.antt, proved. Assumes nothing.
use mathlib.Core.Path.{◌≡◌, refl, sym, ap, ◌∙◌}
use mathlib.Core.Bool.{Bool, true, false, ◌&&◌}
use mathlib.Core.List.{List}
use mathlib.Core.Logic.{◌⊎◌, inl, inr, ⊎_elim}
use Prim.Native.Nat.{ℕ, ◌≤◌, ◌<◌}
use lib.Dec.{leb}
use Rattle.lent.specs.Lent.{front}
use Rattle.table.proofs.Checks.{clash, both}
use Rattle.run.specs.Ran.{Ran}
use Rattle.run.proofs.Laws.{one_run}
use Rattle.house.specs.Verdict.{Reading}
use Rattle.house.proofs.Laws.{one_reading}
use lib.ListN.{length}
use borrow.Author.Tests.{leb-true, leb-false, lt-leb}
use Rattle.lister.specs.declared.Summary.{Summary}
use Rattle.lister.specs.Putting.{text_room, outcome_told}
use Rattle.lister.proofs.Laws.{text_lists, text_good, one_text}
use Rattle.filedoors.specs.Results.{run_size, run_results, read_size, read_results, listing_size, listing_results}
use Rattle.filedoors.specs.Doors as doors
use Rattle.filedoors.specs.Laws.{RunningFalse, ReadFalse, ListingFalse, RunningFalseKeeps, ReadFalseKeeps, ListingFalseKeeps}
use Rattle.filedoors.specs.Laws.{ListingLists, ListingGood, OneRunning, OneRead, OneListed}

-- memory is not both too short and long enough
not_both : {A : Type 0} {r : Bool} → r ≡ false → r ≡ true → A
not_both e f = let h = sym e ∙ f in clash (cc)

pub running_false : RunningFalse
running_false rows s i o B c trace out t a out' t' (doors.short e) = (λ _. leb-false run_size (length t) e, λ _. refl)
running_false rows s i o B c trace out t a out' t' (doors.ran e f) =
    (λ h. not_both h refl, λ h. not_both (lt-leb run_size (length t) h) e)

pub read_false : ReadFalse
read_false file rows events t a rows' events' t' (doors.short e) = (λ _. leb-false read_size (length t) e, λ _. refl)
read_false file rows events t a rows' events' t' (doors.read e f) =
    (λ h. not_both h refl, λ h. not_both (lt-leb read_size (length t) h) e)

-- which memory is too short
which : (out t : List ℕ) → doors.roomy out t ≡ false → (length out < text_room) ⊎ (length t < listing_size)
which out t e = go (leb text_room (length out)) refl e
  where
    go : (b : Bool) → leb text_room (length out) ≡ b → (b && leb listing_size (length t)) ≡ false
        → (length out < text_room) ⊎ (length t < listing_size)
    go false x y = inl (leb-false text_room (length out) x)
    go true x y = inr (leb-false listing_size (length t) y)

pub listing_false : ListingFalse
listing_false file n out t a out' t' (doors.short e) = (λ _. which out t e, λ _. refl)
listing_false file n out t a out' t' (doors.listed e f) =
    let (x, y) = both (leb text_room (length out)) (leb listing_size (length t)) e in (
      λ h. not_both h refl,
      λ h. ⊎_elim (λ l. not_both (lt-leb text_room (length out) l) x) (λ l. not_both (lt-leb listing_size (length t) l) y) h,
    )

pub running_false_keeps : RunningFalseKeeps
running_false_keeps rows s i o B c trace out t out' t' (doors.short e) = (refl, refl)

pub read_false_keeps : ReadFalseKeeps
read_false_keeps file rows events t rows' events' t' (doors.short e) = (refl, refl, refl)

pub listing_false_keeps : ListingFalseKeeps
listing_false_keeps file n out t out' t' (doors.short e) = (refl, refl)

room : (out t : List ℕ) → doors.roomy out t ≡ true → text_room ≤ length out
room out t e = leb-true text_room (length out) (both (leb text_room (length out)) (leb listing_size (length t)) e).0

pub listing_lists : ListingLists
listing_lists f file out t out' t' k (doors.listed {r} e x) = (outcome_told r, (text_lists f file out r out' k (room out t e) x).0)

pub listing_good : ListingGood
listing_good f file out t out' t' k (doors.listed {r} e x) = text_good f file out r out' k (room out t e) x

pub one_running : OneRunning
one_running rows s i o B c trace out t a₁ a₂ out₁ t₁ out₂ t₂ (doors.short e) (doors.short e') = (refl, refl, refl)
one_running rows s i o B c trace out t a₁ a₂ out₁ t₁ out₂ t₂ (doors.short e) (doors.ran e' f) = not_both e e'
one_running rows s i o B c trace out t a₁ a₂ out₁ t₁ out₂ t₂ (doors.ran e f) (doors.short e') = not_both e' e
one_running rows s i o B c trace out t a₁ a₂ out₁ t₁ out₂ t₂ (doors.ran {r = x} e f) (doors.ran {r = y} e' f') =
    let (same, memory) = one_run rows s i o B c trace out x y out₁ out₂ f f' in
    (refl, memory, ap (λ (z : Ran). front t (run_results z)) same)

pub one_read : OneRead
one_read file rows events t a₁ a₂ rows₁ events₁ t₁ rows₂ events₂ t₂ (doors.short e) (doors.short e') = (refl, refl, refl, refl)
one_read file rows events t a₁ a₂ rows₁ events₁ t₁ rows₂ events₂ t₂ (doors.short e) (doors.read e' f) = not_both e e'
one_read file rows events t a₁ a₂ rows₁ events₁ t₁ rows₂ events₂ t₂ (doors.read e f) (doors.short e') = not_both e' e
one_read file rows events t a₁ a₂ rows₁ events₁ t₁ rows₂ events₂ t₂ (doors.read {r = x} e f) (doors.read {r = y} e' f') =
    let (same, first, second) = one_reading file rows events x y rows₁ rows₂ events₁ events₂ f f' in
    (refl, first, second, ap (λ (z : Reading). front t (read_results z)) same)

pub one_listed : OneListed
one_listed file n out t a₁ a₂ out₁ t₁ out₂ t₂ (doors.short e) (doors.short e') = (refl, refl, refl)
one_listed file n out t a₁ a₂ out₁ t₁ out₂ t₂ (doors.short e) (doors.listed e' f) = not_both e e'
one_listed file n out t a₁ a₂ out₁ t₁ out₂ t₂ (doors.listed e f) (doors.short e') = not_both e' e
one_listed file n out t a₁ a₂ out₁ t₁ out₂ t₂ (doors.listed {r = x} e f) (doors.listed {r = y} e' f') =
    let (same, memory) = one_text file n out x y out₁ out₂ f f' in
    (refl, memory, ap (λ (z : Summary). front t (listing_results z)) same)
