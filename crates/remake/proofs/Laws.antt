-- Every statement of specs/Laws.antt, proved. Assumes nothing.
use Rattle.std.specs.Prelude.{Ok, Err}
use mathlib.Core.Path.{◌≡◌, refl, sym, ap, ◌∙◌}
use mathlib.Core.List.{List, []}
use mathlib.Core.Logic.{⊎_elim}
use Prim.Native.Nat.{ℕ}
use native.Mathlib.Omega.{arith}
use lib.ListN.{length, replicate, length-replicate}
use Rattle.lent.specs.Lent.{front}
use Rattle.table.proofs.Checks.{clash}
use Rattle.table.specs.First.{first}
use Rattle.table.specs.Tests.{counts_test, length_test, entries_test, bounds_test}
use Rattle.table.specs.declared.answer.Refusal.TheVariants.{Waiting}
use Rattle.block.specs.Limits.{block_size}
use Rattle.house.specs.File.{rows_of, events_of, contents_of}
use Rattle.house.specs.Laws.{GoodContents, GoodFile}
use Rattle.house.specs.Reading.{given, shape_test, rows_test, limits_test, held_test, content_test, form_test, verdict, answer, Answers}
use Rattle.house.specs.declared.answer.Contents.{Contents}
use Rattle.house.specs.declared.answer.Refusal.{Refusal}
use Rattle.house.specs.declared.answer.Refusal.TheVariants.{Content}
use Rattle.house.specs.declared.answer.Source.TheVariants.{Standard}
use Rattle.house.specs.Verdict.{Verdict}
use Rattle.house.proofs.Laws.{form_passes, read_exactly, rows_fit, what_is_held}
use Rattle.writer.specs.Layout.{file_of}
use Rattle.writer.specs.Writing.{needed, write_test, IsFile, Writes}
use Rattle.writer.specs.Writing as writing
use Rattle.writer.specs.Laws.{WritesWhatWasRead}
use Rattle.writer.specs.Answer.{Writing}
use Rattle.writer.proofs.Laws.{laid_out, write_exactly, one_writing, writes_back}
use Rattle.remake.specs.Remaking.{row_room, event_room, changed, Remakes, refused, written}
use Rattle.remake.specs.Laws.{OneRemaking, OneRebinding, OneRetracing, FormWritten, GoodWritten, SameAgain}
use Rattle.remake.specs.Laws.{GivenTold, AnyRebound, SomeRebound, ReboundAlone, NoLessDoes, RetracedAlone}
use Rattle.remake.specs.Laws.{OneMending, MendedAlone, MendedSame, MendedPasses}
use Rattle.remake.proofs.Bounds
use Rattle.remake.proofs.Mending
use Rattle.remake.proofs.Telling
use Rattle.remake.proofs.Trace

refusals : {a b : Refusal} → ◌≡◌ {A = Verdict} (Err a) (Err b) → a ≡ b
refusals e = cc

pub one_remaking : OneRemaking
one_remaking v s waiting losses trace o w₁ w₂ o₁ o₂ (refused x) (refused y) = (ap Err (refusals (sym x ∙ y)), refl)
one_remaking v s waiting losses trace o w₁ w₂ o₁ o₂ (refused x) (written p h) = let z = sym p ∙ x in clash (cc)
one_remaking v s waiting losses trace o w₁ w₂ o₁ o₂ (written p h) (refused x) = let z = sym p ∙ x in clash (cc)
one_remaking v s waiting losses trace o w₁ w₂ o₁ o₂ (written p h) (written q k) =
    one_writing (changed s waiting losses trace) (rows_of s) trace o w₁ w₂ o₁ o₂ h k

pub one_rebinding : OneRebinding
one_rebinding s waiting losses = one_remaking (form_test s) s waiting losses (events_of s)

pub one_retracing : OneRetracing
one_retracing s = one_remaking (verdict s row_room event_room) s (contents_of s).waiting (contents_of s).losses

-- Who answers.

-- a file that passes is not refused
by_writer : (v : Verdict) (s : List ℕ) (waiting losses : ℕ) (trace o : List ℕ) (w : Writing) (o' : List ℕ) → v ≡ Ok tt
    → Remakes v s waiting losses trace o w o' → Writes (changed s waiting losses trace) (rows_of s) trace o w o'
by_writer v s waiting losses trace o w o' p (refused x) = let z = sym p ∙ x in clash (cc)
by_writer v s waiting losses trace o w o' p (written q h) = h

pub form_written : FormWritten
form_written s waiting losses o w o' g h = by_writer (form_test s) s waiting losses (events_of s) o w o' ((form_passes s).1 g) h

-- nothing refuses a good file
passes : (s : List ℕ) → GoodFile s (contents_of s) → verdict s row_room event_room ≡ Ok tt
passes s g =
    (read_exactly s row_room event_room).1 (g, rows_fit (contents_of s) (rows_of s) (events_of s) g.contents, g.contents.few)

pub good_written : GoodWritten
good_written s trace o w o' g h =
    by_writer (verdict s row_room event_room) s (contents_of s).waiting (contents_of s).losses trace o w o' (passes s g) h

-- a good file is read into rooms of these lengths
reads : (s d e : List ℕ) → length d ≡ row_room → length e ≡ event_room → GoodFile s (contents_of s)
    → Answers s d e (Ok (contents_of s)) (front d (rows_of s)) (front e (events_of s))
reads s d e long wide g = record { reading = answered; rows = refl; events = refl }
  where
    passed : verdict s (length d) (length e) ≡ Ok tt
    passed = rw (long, wide) (passes s g)

    answered : Ok (contents_of s) ≡ answer (verdict s (length d) (length e)) (contents_of s)
    answered = rw passed

same : (c : Contents) (rows rows' trace trace' o o' : List ℕ) (w : Writing) → rows ≡ rows' → trace ≡ trace'
    → WritesWhatWasRead c rows trace o w o' → WritesWhatWasRead c rows' trace' o w o'
same c rows rows' trace trace' o o' w f g h = rw (f, g) at h

pub same_again : SameAgain
same_again s o w o' b g l h =
    let d : List ℕ = replicate row_room 0 in
    let e : List ℕ = replicate event_room 0 in
    let a = reads s d e (length-replicate {A = ℕ} row_room 0) (length-replicate {A = ℕ} event_room 0) g in
    let is = what_is_held s d e (contents_of s) _ _ a in
    let k : Writes (changed s (contents_of s).waiting (contents_of s).losses (events_of s)) (rows_of s) (events_of s) o w o' =
    ⊎_elim (λ x. form_written s (contents_of s).waiting (contents_of s).losses o w o' g.form x)
    (λ x. good_written s (events_of s) o w o' g x) h in
    writes_back s d e (contents_of s) _ _ o w o' b a l
    (same (contents_of s) _ _ _ _ o o' w (sym is.rows.start) (sym is.events.start) k)

-- The bounds that are given.
pub given_told : GivenTold
given_told = Telling.given_told

pub any_rebound : AnyRebound
any_rebound s waiting losses o w o' g k l h =
    let c : Contents = changed s waiting losses (events_of s) in
    let p : write_test c (rows_of s) (events_of s) (length o) ≡ Ok tt =
    (write_exactly c (rows_of s) (events_of s) (length o) (record { row_count = refl; event_count = refl })).1 (k, l) in
    (form_written s waiting losses o w o' g h).answer ∙ ap (λ (v : Verdict). writing.answer v c) p

-- the standard box with bounds that are none, and no events
abbrev unbound : Contents
unbound = given Standard 64 16 16 0 0 [] []

abbrev file : List ℕ
file = file_of unbound [] []

is_file : IsFile file unbound [] []
is_file = laid_out unbound [] [] (record { row_count = refl; event_count = refl }) (omega arith) (omega arith)

-- the verdict on a file of good form, from what it holds
held : (s : List ℕ) (c : Contents) (rows trace : List ℕ) (a b : ℕ) → IsFile s c rows trace → verdict s a b ≡ content_test c rows trace a b
unfolding verdict
held s c rows trace a b i = rw ((form_passes s).1 i.form, i.contents, i.rows_held, i.events_held)

five : content_test unbound [] [] row_room event_room ≡ Err (Content (Waiting 0))
unfolding content_test held_test shape_test rows_test limits_test counts_test length_test entries_test bounds_test first
five = refl

-- with other bounds it is good
bound_good : GoodContents (given Standard 64 16 16 1 1 [] []) [] []
bound_good =
    record {
      table = (refl, refl, refl, refl);
      bounds = record { waiting = (omega arith, omega arith); losses = (omega arith, omega arith) };
      few = omega arith;
      valid = λ k l e. omega arith;
    }

pub some_rebound : SomeRebound
some_rebound = (
  file,
  record {
    refused = held file unbound [] [] row_room event_room is_file ∙ five;
    rebound = λ o w o' l h.
        let c : Contents = changed file 1 1 (events_of file) in
        let k : GoodContents c (rows_of file) (events_of file) = rw (is_file.contents, is_file.rows_held, is_file.events_held) bound_good in
        let n : needed c ≡ block_size = rw (is_file.rows_held, is_file.events_held) refl in
        any_rebound file 1 1 o w o' is_file.form k (rw n l) h ∙ ap Ok n;
  },
)

-- What changes.
pub rebound_alone : ReboundAlone
rebound_alone = Bounds.rebound_alone

pub no_less_does : NoLessDoes
no_less_does = Bounds.no_less_does

pub retraced_alone : RetracedAlone
retraced_alone = Trace.retraced_alone

-- The check put right.
pub one_mending : OneMending
one_mending = Mending.one_mending

pub mended_alone : MendedAlone
mended_alone = Mending.mended_alone

pub mended_same : MendedSame
mended_same = Mending.mended_same

pub mended_passes : MendedPasses
mended_passes = Mending.mended_passes
