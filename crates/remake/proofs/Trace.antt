-- A file with another trace beside the old one: up to the end of the rows both are laid out alike. Assumes nothing.
use mathlib.Core.Path.{◌≡◌, refl, sym, ap, ◌∙◌}
use mathlib.Core.List.{List, [], ◌++◌, append-nil}
use Prim.Native.Nat.{ℕ, ◌+◌}
use native.Mathlib.Omega.{arith}
use lib.ListN.{length, take}
use lib.Seq.{take_at}
use Rattle.block.specs.Limits.{setup_kind, row_kind, event_kind}
use Rattle.house.specs.File.{rows_of, events_of, contents_of}
use Rattle.house.specs.Reading.{given}
use Rattle.house.specs.declared.answer.Contents.{Contents}
use Rattle.house.specs.declared.answer.Source.{Source}
use Rattle.writer.specs.Writing.{blocks_for}
use Rattle.writer.specs.Layout.{block_of, run_of, all_of, setup_of, file_of}
use Rattle.writer.proofs.Laws.{long_as_needed}
use Rattle.remake.specs.Remaking.{rows_end}
use Rattle.remake.specs.Laws.{RetracedAlone}
use Rattle.remake.proofs.Made.{retraced_made}

module _ (source : Source) (states inputs outputs waiting losses : ℕ) (rows : List ℕ) where
  abbrev with : List ℕ → Contents
  with trace = given source states inputs outputs waiting losses rows trace

  -- block 0 and the rows
  start : List ℕ
  start = block_of setup_kind 0 (setup_of (with [])) ++ all_of row_kind 1 rows

  -- a file without events is that much
  long : length start ≡ rows_end rows
  unfolding file_of run_of start
  long =
      ap length (sym (append-nil start))
      ∙ long_as_needed (with []) rows [] (record { row_count = refl; event_count = refl })
      ∙ omega arith

  start_is : (trace : List ℕ) → take (rows_end rows) (file_of (with trace) rows trace) ≡ start
  unfolding file_of start
  start_is trace = take_at start (all_of event_kind (1 + blocks_for (length rows)) trace) (rows_end rows) long

pub retraced_alone : RetracedAlone
unfolding contents_of
retraced_alone s trace o n o' b r =
    let c = contents_of s in
    let m = retraced_made s trace o n o' b r in
    let at = start_is c.source c.states c.inputs c.outputs c.waiting c.losses (rows_of s) in
    record {
      start = ap (take (rows_end (rows_of s))) m.new_is
          ∙ at trace
          ∙ sym (at (events_of s))
          ∙ ap (take (rows_end (rows_of s))) (sym m.old_is);
      events = m.new_file.events_held;
    }
