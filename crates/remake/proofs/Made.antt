-- A file that was made beside the one it was made from: both are laid out as the writer does it. Assumes nothing.
use Rattle.std.specs.Prelude.{Ok}
use mathlib.Core.Path.{◌≡◌, refl}
use mathlib.Core.List.{List}
use Prim.Native.Nat.{ℕ, ◌≤◌}
use lib.ListN.{length, take}
use Rattle.table.proofs.Checks.{clash}
use Rattle.house.specs.Limits.{most_rows, most_events}
use Rattle.house.specs.File.{GoodForm, rows_of, events_of, contents_of}
use Rattle.house.specs.Laws.{GoodContents}
use Rattle.house.specs.Reading.{form_test, verdict}
use Rattle.house.specs.declared.answer.Contents.{Contents}
use Rattle.house.specs.Verdict.{Verdict}
use Rattle.house.proofs.Laws.{form_passes, rows_fit, read_exactly, counts_held}
use Rattle.writer.specs.Writing.{write_test, IsFile, Writes}
use Rattle.writer.specs.Layout.{file_of}
use Rattle.writer.specs.Laws.{Bytes, Counted}
use Rattle.writer.specs.Answer.{Writing}
use Rattle.writer.proofs.Laws.{laid_out, one_file, good_is_file, write_exactly, was_written}
use Rattle.remake.specs.Remaking.{row_room, event_room, changed, Remakes, refused, written, Rebinds, Retraces}

-- a file that was made, and what it was made from
pub record Made (s : List ℕ) (waiting losses : ℕ) (trace f : List ℕ) : Type 0 where
  pub old : GoodForm s
  pub old_is : s ≡ file_of (contents_of s) (rows_of s) (events_of s)
  pub new : GoodContents (changed s waiting losses trace) (rows_of s) trace
  pub new_file : IsFile f (changed s waiting losses trace) (rows_of s) trace
  pub new_is : f ≡ file_of (changed s waiting losses trace) (rows_of s) trace

-- the writer answered
answered : (v : Verdict) (s : List ℕ) (waiting losses : ℕ) (trace o : List ℕ) (w : Writing) (n : ℕ) (o' : List ℕ) → w ≡ Ok n
    → Remakes v s waiting losses trace o w o'
    → (v ≡ Ok tt) × Writes (changed s waiting losses trace) (rows_of s) trace o (Ok n) o'
answered v s waiting losses trace o w n o' e (refused x) = clash (cc)
answered v s waiting losses trace o w n o' e (written p h) = (p, rw e at h)

is_laid : (f : List ℕ) (c : Contents) (rows trace : List ℕ) → Counted c rows trace → length rows ≤ most_rows → length trace ≤ most_events
    → IsFile f c rows trace → f ≡ file_of c rows trace
is_laid f c rows trace n l m i = one_file f (file_of c rows trace) c rows trace i (laid_out c rows trace n l m)

-- the rows of what was written are those of the file, so they are few; and if its events are
made : (s : List ℕ) (waiting losses : ℕ) (trace o : List ℕ) (n : ℕ) (o' : List ℕ) → Bytes s → GoodForm s
    → (GoodContents (changed s waiting losses trace) (rows_of s) trace → length (events_of s) ≤ most_events)
    → Writes (changed s waiting losses trace) (rows_of s) trace o (Ok n) o' → Made s waiting losses trace (take n o')
made s waiting losses trace o n o' b g few h =
    let rows : List ℕ = rows_of s in
    let c : Contents = changed s waiting losses trace in
    let counted : Counted c rows trace = record { row_count = refl; event_count = refl } in
    let (p, _) = was_written (write_test c rows trace (length o)) c n h.answer in
    let (k, _) = (write_exactly c rows trace (length o) counted).0 p in
    let fit : length rows ≤ most_rows = rows_fit c rows trace k in
    let (x, y) = counts_held s in
    record {
      old = g;
      old_is = is_laid s (contents_of s) rows (events_of s) (record { row_count = x; event_count = y }) fit (few k) (good_is_file s b g);
      new = k;
      new_file = h.left.file;
      new_is = is_laid (take n o') c rows trace counted fit k.few h.left.file;
    }

pub rebound_made : (s : List ℕ) (waiting losses : ℕ) (o : List ℕ) (n : ℕ) (o' : List ℕ) → Bytes s → Rebinds s waiting losses o (Ok n) o'
    → Made s waiting losses (events_of s) (take n o')
rebound_made s waiting losses o n o' b m =
    let (v, h) = answered (form_test s) s waiting losses (events_of s) o (Ok n) n o' refl m in
    made s waiting losses (events_of s) o n o' b ((form_passes s).0 v) (λ k. k.few) h

pub retraced_made : (s trace o : List ℕ) (n : ℕ) (o' : List ℕ) → Bytes s → Retraces s trace o (Ok n) o'
    → Made s (contents_of s).waiting (contents_of s).losses trace (take n o')
retraced_made s trace o n o' b m =
    let waiting = (contents_of s).waiting in
    let losses = (contents_of s).losses in
    let (v, h) = answered (verdict s row_room event_room) s waiting losses trace o (Ok n) n o' refl m in
    let (g, _, _) = (read_exactly s row_room event_room).0 v in
    made s waiting losses trace o n o' b g.form (λ k. g.contents.few) h
