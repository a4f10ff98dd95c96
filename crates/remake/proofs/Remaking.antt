-- From a file's reading and the writer's answer to what is made of it. Assumes nothing.
use Rattle.std.specs.Prelude.{Ok, Err}
use mathlib.Core.Path.{◌≡◌, refl, sym, ◌∙◌}
use mathlib.Core.List.{List}
use Prim.Native.Nat.{ℕ}
use native.Mathlib.Omega.{arith}
use lib.ListN.{length, take}
use Rattle.house.specs.Limits.{most_bytes}
use Rattle.house.specs.File.{rows_of, events_of, contents_of}
use Rattle.house.specs.Reading.{given, verdict, answer, after, Answers, handed, Unpacks}
use Rattle.house.specs.declared.answer.Contents.{Contents}
use Rattle.house.specs.Verdict.{Reading}
use Rattle.house.specs.declared.answer.Refusal.{Refusal}
use Rattle.house.specs.Verdict.{Verdict}
use Rattle.house.proofs.Laws.{form_passes, what_is_held, what_is_unpacked}
use Rattle.house.proofs.Tests.{roomy, good_passed, handed_after}
use Rattle.writer.specs.Writing.{Writes}
use Rattle.writer.specs.Answer.{Writing}
use Rattle.remake.specs.Remaking.{row_room, event_room, changed, Remakes, refused, written, Rebinds, Retraces}

-- what a verdict was, from the answer
was_refused : (v : Verdict) (c : Contents) (r : Refusal) → Err r ≡ answer v c → v ≡ Err r
was_refused (Ok _) c r e = cc
was_refused (Err x) c r e = let z : x ≡ r = cc in rw z

was_passed : (v : Verdict) (c d : Contents) → Ok d ≡ answer v c → v ≡ Ok tt
was_passed (Ok _) c d e = refl
was_passed (Err x) c d e = cc

-- a refused file
pub unmade : (v : Verdict) (s : List ℕ) (c : Contents) (waiting losses : ℕ) (trace o : List ℕ) (a : Reading) (r : Refusal) → a ≡ answer v c
    → a ≡ Err r → Remakes v s waiting losses trace o (Err r) o
unmade v s c waiting losses trace o a r h x = refused (was_refused v c r (sym x ∙ h))

-- the reader's answer, into rooms of these lengths
pub read_so : (s d e d' e' : List ℕ) (a : Reading) → length d ≡ row_room → length e ≡ event_room → Answers s d e a d' e'
    → a ≡ answer (verdict s row_room event_room) (contents_of s)
read_so s d e d' e' a long wide h = rw (long, wide) at h.reading

-- what is handed out of a file that was judged is what a reading hands out
pub judged : (s d e d' : List ℕ) (a : Reading) → length d ≡ row_room → length e ≡ event_room → a ≡ answer (verdict s row_room event_room) (contents_of s)
    → d' ≡ handed a d (rows_of s) → Answers s d e a d' (after a e (events_of s))
judged s d e d' a long wide h x =
    let v : a ≡ answer (verdict s (length d) (length e)) (contents_of s) = rw (long, wide) h in
    record {
      reading = v;
      rows = x ∙ handed_after a d (rows_of s) (λ good. (roomy s _ _ (good_passed _ _ a v good)).0);
      events = refl;
    }

-- the writer's answer, in the words of the file
in_words : (s rows trace o o' : List ℕ) (c : Contents) (waiting losses : ℕ) (w : Writing) → c ≡ contents_of s → rows ≡ rows_of s
    → Writes (given c.source c.states c.inputs c.outputs waiting losses rows trace) rows trace o w o'
    → Writes (changed s waiting losses trace) (rows_of s) trace o w o'
in_words s rows trace o o' c waiting losses w e f h = rw (e, f) at h

module _ (s d e d' e' : List ℕ) (a : Reading) (c : Contents) (rows trace o o' : List ℕ) (w : Writing) (r : rows ≡ take c.rows d') where
  -- with other bounds
  pub rebinds : length d ≡ most_bytes → length e ≡ most_bytes → Unpacks s d e a d' e' → a ≡ Ok c → (waiting losses : ℕ)
      → trace ≡ take c.events e' → Writes (given c.source c.states c.inputs c.outputs waiting losses rows trace) rows trace o w o'
      → Rebinds s waiting losses o w o'
  rebinds long wide h x waiting losses t k =
      let u : Unpacks s d e (Ok c) d' e' = rw x at h in
      let (g, held) = what_is_unpacked s d e c d' e' (omega arith) (omega arith) u in
      let m : Writes (changed s waiting losses trace) (rows_of s) trace o w o' =
      in_words s rows trace o o' c waiting losses w held.contents (r ∙ held.rows.start) k in
      let same : trace ≡ events_of s = t ∙ held.events.start in
      written ((form_passes s).1 g) (rw same at m)

  -- with another trace
  pub retraces : length d ≡ row_room → length e ≡ event_room → Answers s d e a d' e' → a ≡ Ok c
      → Writes (given c.source c.states c.inputs c.outputs c.waiting c.losses rows trace) rows trace o w o'
      → Retraces s trace o w o'
  retraces long wide h x k =
      let u : Answers s d e (Ok c) d' e' = rw x at h in
      let held = what_is_held s d e c d' e' u in
      let m : Writes (changed s c.waiting c.losses trace) (rows_of s) trace o w o' =
      in_words s rows trace o o' c c.waiting c.losses w held.contents (r ∙ held.rows.start) k in
      written (was_passed (verdict s row_room event_room) (contents_of s) c (read_so s d e d' e' (Ok c) long wide u)) (rw held.contents at m)
