-- Every statement of specs/Laws.antt, proved. Assumes nothing.
use mathlib.Core.Path.{◌≡◌, refl, sym, ap, ◌∙◌}
use mathlib.Core.Bool.{Bool, true, false}
use mathlib.Core.List.{List}
use Prim.Native.Nat.{ℕ}
use lib.ListN.{length}
use borrow.Author.Tests.{leb-false, lt-leb}
use Rattle.table.proofs.Checks.{clash}
use Rattle.lent.specs.Lent.{front}
use Rattle.house.specs.Reading.{given}
use Rattle.writer.specs.Writing.{Writes}
use Rattle.writer.specs.Answer.{Writing}
use Rattle.writer.proofs.Laws.{one_writing}
use Rattle.remake.specs.Remaking.{Rebinds, Retraces}
use Rattle.remake.specs.Mending.{Mends}
use Rattle.remake.proofs.Laws.{one_rebinding, one_retracing, one_mending}
use Rattle.writerdoors.specs.Results.{write_size, write_results, Making}
use Rattle.writerdoors.specs.Results as doors
use Rattle.writerdoors.specs.Laws.{MakingFalse, MakingFalseKeeps, OneWriteAnswer, OneRebindAnswer, OneRetraceAnswer, OneMendAnswer}

-- memory is not both too short and long enough
not_both : {A : Type 0} {r : Bool} → r ≡ false → r ≡ true → A
not_both e f = let h = sym e ∙ f in clash (cc)

pub making_false : MakingFalse
making_false P d t a d' t' (doors.short e) = (λ _. leb-false write_size (length t) e, λ _. refl)
making_false P d t a d' t' (doors.writes e f) = (λ h. not_both h refl, λ h. not_both (lt-leb write_size (length t) h) e)

pub making_false_keeps : MakingFalseKeeps
making_false_keeps P d t d' t' (doors.short e) = (refl, refl)

-- where one answer of the library meets P, and leaves one buffer, so it is here
one_answer : (P : Writing → List ℕ → Type 0) → ((x y : Writing) (d e : List ℕ) → P x d → P y e → (x ≡ y) × (d ≡ e)) → (d t : List ℕ) (a₁ a₂ : Bool)
    (d₁ t₁ d₂ t₂ : List ℕ) → Making P d t a₁ d₁ t₁ → Making P d t a₂ d₂ t₂ → (a₁ ≡ a₂) × (d₁ ≡ d₂) × (t₁ ≡ t₂)
one_answer P one d t a₁ a₂ d₁ t₁ d₂ t₂ (doors.short e) (doors.short e') = (refl, refl, refl)
one_answer P one d t a₁ a₂ d₁ t₁ d₂ t₂ (doors.short e) (doors.writes e' f) = not_both e e'
one_answer P one d t a₁ a₂ d₁ t₁ d₂ t₂ (doors.writes e f) (doors.short e') = not_both e' e
one_answer P one d t a₁ a₂ d₁ t₁ d₂ t₂ (doors.writes {w = x} e f) (doors.writes {w = y} e' f') =
    let (same, memory) = one x y d₁ d₂ f f' in
    (refl, memory, ap (λ (z : Writing). front t (write_results z)) same)

pub one_write_answer : OneWriteAnswer
one_write_answer q r s i o b c t d =
    one_answer (λ w x. Writes (given q s i o b c r t) r t d w x) (one_writing (given q s i o b c r t) r t d) d

pub one_rebind_answer : OneRebindAnswer
one_rebind_answer f b c d = one_answer (λ w x. Rebinds f b c d w x) (one_rebinding f b c d) d

pub one_retrace_answer : OneRetraceAnswer
one_retrace_answer f t d = one_answer (λ w x. Retraces f t d w x) (one_retracing f t d) d

pub one_mend_answer : OneMendAnswer
one_mend_answer f d = one_answer (λ w x. Mends f d w x) (one_mending f d) d
