-- Document 01: what reading a file answers, and what it leaves in the buffers. Assumes nothing.
use Rattle.std.specs.Prelude.{◌≡◌, Bool, true, ◌&&◌, List, [], ◌∷◌, ℕ, zero, suc, ◌%◌, eqb, leb, length, Option, Some, None, Ok, Err}
use Rattle.lent.specs.Lent.{front, put}
use Rattle.table.specs.Bytes.{table_of}
use Rattle.table.specs.First.{first}
use Rattle.table.specs.Tests.{counts_test, length_test, entries_test, bounds_test, invalid_at}
use Rattle.table.specs.Refusals.{told}
use Rattle.table.specs.declared.answer.Refusal.TheVariants as table
use Rattle.table.specs.Test.{Test}
use Rattle.block.specs.Limits.{block_size}
use Rattle.block.specs.Block.{block_test}
use Rattle.house.specs.Limits.{most_bytes, most_events, standard_states, standard_inputs, standard_outputs}
use Rattle.house.specs.Verdicts.{must, of_block, of_table, then, first_of}
use Rattle.house.specs.File.{block_at, blocks, block_before, rows_of, events_of, contents_of}
use Rattle.house.specs.declared.answer.Refusal.TheVariants as refusal
use Rattle.house.specs.Verdict.{Verdict}
use Rattle.house.specs.declared.answer.Source.{Source}
use Rattle.house.specs.declared.answer.Source.TheVariants as source
use Rattle.house.specs.declared.answer.Contents.{Contents}
use Rattle.house.specs.Verdict.{Reading}

-- THE FILE AND ITS BLOCKS

-- 11: file empty, not whole blocks, or over 7,680 bytes.
abbrev pub is_whole : ℕ → Bool
is_whole n = leb 1 n && (leb n most_bytes && eqb (n % block_size) 0)

-- The first k blocks, block by block 12, 20, 21, 22, 23.
unfoldable pub blocks_test : List ℕ → ℕ → Verdict
blocks_test s zero = Ok tt
blocks_test s (suc k) = then (blocks_test s k) (of_block (block_test (block_at s k) k (block_before s k)) k)

-- WHAT IT HOLDS

-- 14: source 1 and counts not 64, 16, 16.
abbrev pub is_standard : Source → ℕ → ℕ → ℕ → Bool
is_standard source.Rows s i o = true
is_standard source.Standard s i o = eqb s standard_states && (eqb i standard_inputs && eqb o standard_outputs)

-- The states whose rows the file holds: with source 1, none. So rows are then too many for 1, and 4 has no entry to test.
abbrev pub states_held : Source → ℕ → ℕ
states_held source.Rows s = s
states_held source.Standard s = 0

-- The place that a test tells; n, if it passed.
abbrev pub place_or : Test → ℕ → ℕ
place_or (Ok _) n = n
place_or (Err r) n = (told r).place

-- How many events come before the first that is not valid; all of them, if there is none.
abbrev pub or_else : Option ℕ → ℕ → ℕ
or_else None n = n
or_else (Some k) n = k

unfoldable pub valid_events : ℕ → ℕ → List ℕ → ℕ
valid_events inputs outputs events = or_else (first (invalid_at events inputs outputs) (length events)) (length events)

module _ (c : Contents) where
  -- 2, 3; 14: source 1 and counts not 64, 16, 16; 1.
  unfoldable pub shape_test : Verdict
  shape_test =
      first_of
      (of_table (counts_test c.states c.inputs c.outputs)
      ∷ must (is_standard c.source c.states c.inputs c.outputs) refusal.Standard
      ∷ of_table (length_test c.rows (states_held c.source c.states) c.inputs c.outputs)
      ∷ [])

  -- 4
  unfoldable pub rows_test : List ℕ → Verdict
  rows_test rows = of_table (entries_test (table_of rows (states_held c.source c.states) c.inputs c.outputs))

  -- 5, 6; 9: events past the limit, 4,096.
  unfoldable pub limits_test : Verdict
  limits_test =
      first_of
      (of_table (bounds_test c.waiting c.losses)
      ∷ must (leb c.events most_events) (refusal.Content (table.Events c.events))
      ∷ [])

  -- 7: event byte not valid; event index.
  unfoldable pub events_test : List ℕ → Verdict
  events_test events =
      must (eqb (valid_events c.inputs c.outputs events) c.events)
      (refusal.Content (table.Event (valid_events c.inputs c.outputs events)))

  -- 2, 3, 14, 1, 4, 5, 6, 9, 7: the tests of what a file holds, or of what is to be written into one.
  unfoldable pub held_test : List ℕ → List ℕ → Verdict
  held_test rows events = first_of (shape_test ∷ rows_test rows ∷ limits_test ∷ events_test events ∷ [])

  -- 10: row or event buffer too short; needed length, rows first.
  unfoldable pub room_test : ℕ → ℕ → Verdict
  room_test row_room event_room =
      first_of
      (must (leb c.rows row_room) (refusal.Content (table.Buffer c.rows))
      ∷ must (leb c.events event_room) (refusal.Content (table.Buffer c.events))
      ∷ [])

  unfoldable pub content_test : List ℕ → List ℕ → ℕ → ℕ → Verdict
  content_test rows events row_room event_room = first_of (held_test rows events ∷ room_test row_room event_room ∷ [])

-- What is given, in a file or to be written into one: counts, bounds, source, and how many rows and events.
abbrev pub given : Source → (states inputs outputs waiting losses : ℕ) → List ℕ → List ℕ → Contents
given source s i o B c rows events =
    record {
      states = s;
      inputs = i;
      outputs = o;
      waiting = B;
      losses = c;
      source = source;
      rows = length rows;
      events = length events;
    }

-- THE ANSWER

-- File: 11; then block by block 12, 20 to 23;
unfoldable pub form_test : List ℕ → Verdict
form_test s = first_of (must (is_whole (length s)) (refusal.Length (length s)) ∷ blocks_test s (blocks s) ∷ [])

-- then 2, 3, 14, 1, 4, 5, 6, 9, 7, 10. The rooms are the lengths of the two buffers.
unfoldable pub verdict : List ℕ → ℕ → ℕ → Verdict
verdict s row_room event_room =
    first_of (form_test s ∷ content_test (contents_of s) (rows_of s) (events_of s) row_room event_room ∷ [])

-- Counts, bounds and source are in the result.
abbrev pub answer : Verdict → Contents → Reading
answer (Ok _) c = Ok c
answer (Err r) c = Err r

-- The reader copies rows into one buffer of the caller's and events into another, from their starts; later bytes keep their values.
-- A refused read writes nothing.
abbrev pub after : Reading → List ℕ → List ℕ → List ℕ
after (Ok c) buffer held = front buffer held
after (Err r) buffer held = buffer

-- The reading of the file s into the buffers d and e: the answer, and the buffers afterwards.
pub record Answers (s d e : List ℕ) (r : Reading) (d' e' : List ℕ) : Type 0 where
  pub reading : r ≡ answer (verdict s (length d) (length e)) (contents_of s)
  pub rows : d' ≡ after r d (rows_of s)
  pub events : e' ≡ after r e (events_of s)

-- THE BLOCKS ALONE

-- What blocks hold goes to the start of a buffer, if it has room there.
abbrev pub handed : Reading → List ℕ → List ℕ → List ℕ
handed (Ok c) buffer held = put buffer held
handed (Err r) buffer held = buffer

-- The file s unpacked into the buffers d and e: 11; then block by block 12, 20 to 23; what the blocks hold is not tested.
pub record Unpacks (s d e : List ℕ) (r : Reading) (d' e' : List ℕ) : Type 0 where
  pub reading : r ≡ answer (form_test s) (contents_of s)
  pub rows : d' ≡ handed r d (rows_of s)
  pub events : e' ≡ handed r e (events_of s)
