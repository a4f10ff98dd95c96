-- When an import gives which answer, and that the reader and the import agree. Assumes nothing.
use Rattle.std.specs.Prelude.{Ok, Err, is_ok}
use mathlib.Core.Path.{◌≡◌, refl, sym, ap, ◌∙◌, subst}
use mathlib.Core.Bool.{Bool, true, false}
use mathlib.Core.List.{List}
use Prim.Native.Nat.{ℕ, ◌≤◌}
use native.Mathlib.Decide.{dec_lt, dec_le}
use native.Mathlib.Omega.{arith}
use lib.ListN.{length, drop}
use lib.Seq.{take-append_seam, drop-append_seam}
use borrow.Author.Tests.{eq-eqb, ne_eqb, le-leb, lt-leb}
use Rattle.model.specs.Limits.{most_events}
use Rattle.capture.specs.Capture.{headed, records, right_at, layout_at, events_of, GoodCapture}
use Rattle.capture.specs.Importing.{right_records, layout_records, verdict, imported, after, Imports}
use Rattle.capture.specs.Laws.{Imported_as, unheaded, wrong, over, strange, short, good, ImportsExactly, OneImport, NothingWritten, WhatIsWritten, ReadAsImported, ImportedAsRead}
use Rattle.capture.specs.declared.answer.Refusal.TheVariants as refusal
use Rattle.capture.specs.Answers.{Imported}
use Rattle.capture.proofs.Handing.{exactly_the_events, comes_to_its_end}
use Rattle.capture.proofs.Imports.{good_capture, capture_good}
use Rattle.capture.proofs.Passing.{Pass, passing_all, passing_to, passing_known}
use Rattle.capture.proofs.Records.{octets_length}

-- THE ANSWERS

module _ (s : List ℕ) (room : ℕ) where
  abbrev n : ℕ
  n = records s

  all_right : Pass (right_at s) n → right_records s ≡ n
  all_right p = sym (passing_all (right_at s) n p)

  all_events : Pass (layout_at s) n → layout_records s ≡ n
  all_events p = sym (passing_all (layout_at s) n p)

  -- every answer that the tests lead to is the answer
  exact : (r : Imported) → Imported_as s room r → r ≡ imported s room
  unfolding imported verdict
  exact r (unheaded a) = simp a
  exact r (wrong {k} a l p w) =
      let e : k ≡ right_records s = passing_to (right_at s) n k l p w in
      simp (a, ne_eqb (right_records s) n (λ z. omega arith)) (ap (λ (x : ℕ). Err (refusal.Record x)) e)
  exact r (over a p c) = simp (a, eq-eqb (right_records s) n (all_right p), lt-leb n most_events c)
  exact r (strange {k} a p c l q w) =
      let e : k ≡ layout_records s = passing_to (layout_at s) n k l q w in
      simp (a, eq-eqb (right_records s) n (all_right p), le-leb n most_events c, ne_eqb (layout_records s) n (λ z. omega arith))
      (ap (λ (x : ℕ). Err (refusal.Event x)) e)
  exact r (short g l) =
      simp (
        g.header,
        eq-eqb (right_records s) n (all_right g.lengths),
        le-leb n most_events g.few,
        eq-eqb (layout_records s) n (all_events g.layout),
        lt-leb n room l,
      )
  exact r (good g l) = sym (capture_good s room g l)

  given : {r : Imported} → Imported_as s room r → Imported_as s room (imported s room)
  given {r} x = subst (λ (y : Imported). Imported_as s room y) (exact r x) x

  -- and the tests lead to one
  answered : Imported_as s room (imported s room)
  answered = head (headed s) refl
    where
      whole : GoodCapture s → Imported_as s room (imported s room)
      whole g =
          elim (dec_le n room) [
            | yes l ↦ given (good g l)
            | no l ↦ given (short g (omega arith))
          ]

      octets : headed s ≡ true → Pass (right_at s) n → n ≤ most_events → Imported_as s room (imported s room)
      octets h p c =
          let k = passing_known (layout_at s) n in
          elim (dec_lt (layout_records s) n) [
            | yes l ↦ given (strange h p c l k.before (k.at l))
            | no l ↦ whole (record { header = h; lengths = p; few = c; layout = λ j m. k.before j (omega arith) })
          ]

      lengths : headed s ≡ true → Imported_as s room (imported s room)
      lengths h =
          let k = passing_known (right_at s) n in
          elim (dec_lt (right_records s) n) [
            | yes l ↦ given (wrong h l k.before (k.at l))
            | no l ↦
                let p : Pass (right_at s) n = λ j m. k.before j (omega arith) in
                elim (dec_le n most_events) [
                  | yes c ↦ octets h p c
                  | no c ↦ given (over h p (omega arith))
                ]
          ]

      head : (b : Bool) → headed s ≡ b → Imported_as s room (imported s room)
      head false e = given (unheaded e)
      head true e = lengths e

pub imports_exactly : ImportsExactly
imports_exactly s room r = (exact s room r, λ e. subst (λ (y : Imported). Imported_as s room y) (sym e) (answered s room))

-- THE BUFFER

pub one_import : OneImport
one_import s d r₁ r₂ d₁ d₂ x y =
    let r = x.answer ∙ sym y.answer in
    (r, x.events ∙ ap (λ (z : Imported). after z d (events_of s)) r ∙ sym y.events)

pub nothing_written : NothingWritten
nothing_written s d r d' x = x.events

count_of : {a b : ℕ} → ◌≡◌ {A = Imported} (Ok a) (Ok b) → a ≡ b
count_of e = cc

pub what_is_written : WhatIsWritten
what_is_written s d n d' x =
    let (g, l, e) = good_capture s (length d) (sym (ap is_ok x.answer)) in
    let f : n ≡ records s = count_of (x.answer ∙ e) in
    let m : n ≡ length (events_of s) = f ∙ sym (octets_length s (records s)) in
    record {
      capture = g;
      count = f;
      fits = omega arith;
      start = rw (m, x.events) (take-append_seam (events_of s) (drop (length (events_of s)) d));
      later = rw (m, x.events) (drop-append_seam (events_of s) (drop (length (events_of s)) d));
    }

-- THE TWO AGREE

pub read_as_imported : ReadAsImported
read_as_imported s d n d' x =
    let w = what_is_written s d n d' x in
    rw (w.start, w.count) (comes_to_its_end s w.capture)

pub imported_as_read : ImportedAsRead
imported_as_read s bytes j d r d' c x l =
    let (g, e, f) = exactly_the_events s bytes j c in
    let a : r ≡ Ok j = x.answer ∙ capture_good s (length d) g (omega arith) ∙ ap Ok (sym f) in
    let y : Imports s d (Ok j) d' = record { answer = sym a ∙ x.answer; events = x.events ∙ ap (λ (z : Imported). after z d (events_of s)) a } in
    (a, (what_is_written s d j d' y).start ∙ sym e)
