-- Every statement of specs/Laws.antt, proved, under one roof: other crates take the laws from here. Assumes nothing.
use Rattle.std.specs.Prelude.{Ok, Err}
use mathlib.Core.Path.{◌≡◌, refl, sym, ap, ap₂, ◌∙◌, subst}
use mathlib.Core.List.{List, ◌++◌}
use Prim.Native.Nat.{ℕ, ◌+◌, ◌*◌, ◌≤◌, ◌<◌}
use native.Mathlib.Omega.{arith}
use lib.Dec.{leb}
use lib.ListN.{length, take, drop, take-append-drop}
use lib.Seq.{get_or-take, get_or-drop}
use borrow.Author.Tests.{leb-true, le-leb}
use Rattle.table.proofs.Checks.{clash}
use Rattle.table.specs.declared.answer.Refusal.TheVariants.{Buffer}
use Rattle.block.specs.Limits.{block_size}
use Rattle.block.specs.Block.{byte}
use Rattle.house.specs.File.{block_at, rows_of, events_of, contents_of}
use Rattle.house.specs.Reading.{held_test, verdict, answer as read_answer, Answers}
use Rattle.house.specs.Laws.{GoodContents, GoodFile, Starts}
use Rattle.house.specs.declared.answer.Contents.{Contents}
use Rattle.house.specs.Verdict.{Reading}
use Rattle.house.specs.declared.answer.Refusal.TheVariants.{Content}
use Rattle.house.specs.Verdict.{Verdict}
use Rattle.house.proofs.Laws.{contents_pass, rows_fit, read_exactly, what_is_held, what_is_good, counts_held}
use Rattle.house.proofs.Verdicts.{then_passed, must_passed}
use Rattle.writer.specs.Writing.{needed, write_test, answer, IsFile, Left, Writes}
use Rattle.writer.specs.Layout.{file_of}
use Rattle.writer.specs.Laws.{Counted, LaidOut, LongAsNeeded, OneFile, Bytes, GoodIsFile, WriteExactly, OneWriting, NothingWritten, ReadsBack, WritesWhatWasRead, WritesBack}
use Rattle.writer.specs.Answer.{Writing}
use Rattle.writer.proofs.Files.{laid, long_enough}
use Rattle.writer.proofs.Unique

-- The file.
pub laid_out : LaidOut
laid_out c rows trace n l m = laid c rows trace n l m

-- so of good contents
pub good_laid : (c : Contents) (rows trace : List ℕ) → Counted c rows trace → GoodContents c rows trace → IsFile (file_of c rows trace) c rows trace
good_laid c rows trace n g = laid_out c rows trace n (rows_fit c rows trace g) g.few

pub long_as_needed : LongAsNeeded
long_as_needed c rows trace n = long_enough c rows trace n

pub one_file : OneFile
one_file = Unique.one_file

low : (s : List ℕ) → Bytes s → (k i : ℕ) → i < block_size → byte (block_at s k) i < 256
low s h k i l =
    rw (get_or-take block_size (drop (block_size * k) s) i 0 l, get_or-drop (block_size * k) s i 0) (h (block_size * k + i))

pub good_is_file : GoodIsFile
good_is_file s h g =
    record {
      form = g;
      spelt = λ k l. record { number_low = low s h k 2 (omega arith); used_low = low s h k 4 (omega arith); check_low = low s h k 510 (omega arith) };
      contents = refl;
      rows_held = refl;
      events_held = refl;
    }

-- The writing.
pub write_exactly : WriteExactly
unfolding write_test
write_exactly c rows trace space n = (
  λ e.
      let (p, q) = then_passed (held_test c rows trace) _ e in (
        (contents_pass c rows trace n.row_count n.event_count).0 p,
        leb-true (needed c) space (must_passed (leb (needed c) space) (Content (Buffer (needed c))) q),
      ),
  λ (g, l). rw ((contents_pass c rows trace n.row_count n.event_count).1 g, le-leb (needed c) space l),
)

-- of two buffers left by the same answer
left_same : (c : Contents) (rows trace o : List ℕ) (w : Writing) (o₁ o₂ : List ℕ) → Left w c rows trace o o₁ → Left w c rows trace o o₂ → o₁ ≡ o₂
left_same c rows trace o (Ok n) o₁ o₂ a b =
    sym (take-append-drop n o₁)
    ∙ ap₂ (λ (x y : List ℕ). x ++ y) (one_file (take n o₁) (take n o₂) c rows trace a.file b.file) (a.later ∙ sym b.later)
    ∙ take-append-drop n o₂
left_same c rows trace o (Err r) o₁ o₂ a b = a ∙ sym b

pub one_writing : OneWriting
one_writing c rows trace o w₁ w₂ o₁ o₂ x y =
    let e = x.answer ∙ sym y.answer in
    (e, left_same c rows trace o w₂ o₁ o₂ (subst (λ (w : Writing). Left w c rows trace o o₁) e x.left) y.left)

pub nothing_written : NothingWritten
nothing_written c rows trace o r o' x = x.left

-- a file that was written passed its tests, and its length was answered
pub was_written : (v : Verdict) (c : Contents) (n : ℕ) → Ok n ≡ answer v c → (v ≡ Ok tt) × (n ≡ needed c)
was_written (Ok _) c n e = (refl, cc)
was_written (Err r) c n e = clash (cc)

passed_written : (v : Verdict) (c : Contents) (w : Writing) → w ≡ answer v c → v ≡ Ok tt → w ≡ Ok (needed c)
passed_written v c w e p = e ∙ ap (λ (x : Verdict). answer x c) p

-- Both round trips.

-- a file of good contents is a good file
file_good : (f : List ℕ) (c : Contents) (rows trace : List ℕ) → IsFile f c rows trace → GoodContents c rows trace → GoodFile f (contents_of f)
file_good f c rows trace i g =
    record {
      form = i.form;
      contents = rw (i.contents, i.rows_held, i.events_held) g;
    }

starts_same : (d d' p q : List ℕ) (n m : ℕ) → p ≡ q → n ≡ m → Starts d d' p n → Starts d d' q m
starts_same d d' p q n m e f s = rw (e, f) at s

pub reads_back : ReadsBack
reads_back c rows trace o n o' d e r d' e' counted w l m a =
    let f = take n o' in
    let i : IsFile f c rows trace = w.left.file in
    let (p, _) = was_written (write_test c rows trace (length o)) c n w.answer in
    let (g, _) = (write_exactly c rows trace (length o) counted).0 p in
    let v : verdict f (length d) (length e) ≡ Ok tt =
    (read_exactly f (length d) (length e)).1 (file_good f c rows trace i g, rw i.rows_held l, rw i.events_held m) in
    let same : r ≡ Ok (contents_of f) = a.reading ∙ ap (λ (x : Verdict). read_answer x (contents_of f)) v in
    let h = what_is_held f d e (contents_of f) d' e' (subst (λ (x : Reading). Answers f d e x d' e') same a) in
    record {
      contents = same ∙ ap (λ (x : Contents). Ok x) i.contents;
      rows_back = starts_same d d' (rows_of f) rows (contents_of f).rows (length rows) i.rows_held ((counts_held f).0 ∙ ap length i.rows_held) h.rows;
      events_back = starts_same e e' (events_of f) trace (contents_of f).events (length trace) i.events_held ((counts_held f).1 ∙ ap length i.events_held) h.events;
    }

-- what `write` is given of a file's reading is what the file holds
given_again : (s : List ℕ) (c : Contents) (rows trace o : List ℕ) (w : Writing) (o' : List ℕ) → c ≡ contents_of s → rows ≡ rows_of s
    → trace ≡ events_of s → WritesWhatWasRead c rows trace o w o' → Writes c (rows_of s) (events_of s) o w o'
unfolding contents_of
given_again s c rows trace o w o' e f g x = rw e (rw (e, f, g) at x)

pub writes_back : WritesBack
writes_back s d e c d' e' o w o' bytes a space x =
    let rows = rows_of s in
    let trace = events_of s in
    let g = what_is_good s d e c d' e' a in
    let h = what_is_held s d e c d' e' a in
    let y : Writes c rows trace o w o' = given_again s c _ _ o w o' h.contents h.rows.start h.events.start x in
    let counted : Counted c rows trace =
    record { row_count = ap (λ (z : Contents). z.rows) h.contents ∙ (counts_held s).0; event_count = ap (λ (z : Contents). z.events) h.contents ∙ (counts_held s).1 } in
    let i : IsFile s c rows trace =
    subst (λ (z : Contents). IsFile s z rows trace) (sym h.contents) (good_is_file s bytes g.form) in
    let n : length s ≡ needed c =
    ap length (one_file s (file_of c rows trace) c rows trace i (good_laid c rows trace counted g.contents)) ∙ long_as_needed c rows trace counted in
    let l : needed c ≤ length o = omega arith in
    let p = (write_exactly c rows trace (length o) counted).1 (g.contents, l) in
    let e₁ : w ≡ Ok (needed c) = passed_written (write_test c rows trace (length o)) c w y.answer p in
    let left : Left (Ok (needed c)) c rows trace o o' = subst (λ (z : Writing). Left z c rows trace o o') e₁ y.left in
    record {
      answer = e₁ ∙ ap (λ (k : ℕ). Ok k) (sym n);
      bytes = ap (λ (k : ℕ). take k o') n ∙ one_file (take (needed c) o') s c rows trace left.file i;
    }
