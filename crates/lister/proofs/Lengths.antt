-- 11 tells a file's own length, and a file that is too long is told by nothing else. Assumes nothing.
use Rattle.std.specs.Prelude.{Ok, Err}
use mathlib.Core.Path.{◌≡◌, refl, ap}
use mathlib.Core.Bool.{Bool, true, false}
use mathlib.Core.List.{List}
use Prim.Native.Nat.{ℕ, zero, suc, ◌<◌}
use native.Mathlib.Omega.{arith}
use lib.Dec.{eqb, leb}
use lib.ListN.{length}
use borrow.Author.Tests.{lt-leb, le-leb}
use Rattle.table.specs.Bytes.{table_of}
use Rattle.table.specs.Tests.{counts_test, length_test, entries_test, bounds_test}
use Rattle.table.specs.declared.answer.Refusal as content_refusal
use Rattle.table.specs.declared.answer.Refusal.TheVariants as content
use Rattle.table.specs.Test.{Test}
use Rattle.flaw.specs.Test.{Test as BlockTest}
use Rattle.block.specs.Block.{block_test}
use Rattle.house.specs.Limits.{most_bytes, most_events}
use Rattle.house.specs.File.{block_at, blocks, block_before, rows_of, events_of, contents_of}
use Rattle.house.specs.Reading.{is_whole, is_standard, states_held, valid_events, blocks_test, form_test, verdict}
use Rattle.house.specs.Reading.{shape_test, rows_test, limits_test, events_test, held_test, room_test, content_test}
use Rattle.house.specs.Verdicts.{must, of_block, of_table, then}
use Rattle.house.specs.declared.answer.Contents.{Contents}
use Rattle.house.specs.declared.answer.Refusal.{Refusal}
use Rattle.house.specs.declared.answer.Refusal.TheVariants.{Length, Block, Standard, Content}
use Rattle.house.specs.Verdict.{Verdict}
use Rattle.lister.specs.Listing.{true_length}

clash : {r : Refusal} → ◌≡◌ {A = Verdict} (Ok tt) (Err r) → ⊥
clash e = let z : ◌≡◌ {A = ℕ} 0 1 = cc in omega arith

-- A LENGTH IS TOLD BY THE FIRST TEST ALONE

abbrev Otherwise : Verdict → Type 0
Otherwise v = (n : ℕ) → v ≡ Err (Length n) → ⊥

passed : Otherwise (Ok tt)
passed n e = clash e

of_must : (b : Bool) (r : Refusal) → Otherwise (Err r) → Otherwise (must b r)
of_must true r w = passed
of_must false r w = w

of_then : (v w : Verdict) → Otherwise v → Otherwise w → Otherwise (then v w)
of_then (Ok _) w f g = g
of_then (Err r) w f g = f

is_content : (r : content_refusal.Refusal) → Otherwise (Err (Content r))
is_content r n e = let z : ◌≡◌ {A = ℕ} 0 1 = cc in omega arith

is_standard_told : Otherwise (Err Standard)
is_standard_told n e = let z : ◌≡◌ {A = ℕ} 0 1 = cc in omega arith

of_content : (t : Test) → Otherwise (of_table t)
of_content (Ok _) = passed
of_content (Err r) = is_content r

of_one_block : (t : BlockTest) (k : ℕ) → Otherwise (of_block t k)
of_one_block (Ok _) k = passed
of_one_block (Err f) k = λ n e. (let z : ◌≡◌ {A = ℕ} 0 1 = cc in omega arith)

of_blocks : (s : List ℕ) (k : ℕ) → Otherwise (blocks_test s k)
unfolding blocks_test
of_blocks s zero = passed
of_blocks s (suc k) = of_then (blocks_test s k) _ (of_blocks s k) (of_one_block (block_test (block_at s k) k (block_before s k)) k)

module _ (c : Contents) where
  of_shape : Otherwise (shape_test c)
  unfolding shape_test
  of_shape =
      let counts = counts_test c.states c.inputs c.outputs in
      let rows = length_test c.rows (states_held c.source c.states) c.inputs c.outputs in
      let box = is_standard c.source c.states c.inputs c.outputs in
      of_then (of_table counts) _ (of_content counts)
      (of_then (must box Standard) _ (of_must box Standard is_standard_told) (of_content rows))

  of_limits : Otherwise (limits_test c)
  unfolding limits_test
  of_limits =
      let bounds = bounds_test c.waiting c.losses in
      let events = content.Events c.events in
      of_then (of_table bounds) _ (of_content bounds) (of_must (leb c.events most_events) (Content events) (is_content events))

  of_room : (a b : ℕ) → Otherwise (room_test c a b)
  unfolding room_test
  of_room a b =
      let rows = content.Buffer c.rows in
      let events = content.Buffer c.events in
      of_then (must (leb c.rows a) (Content rows)) _ (of_must (leb c.rows a) (Content rows) (is_content rows))
      (of_must (leb c.events b) (Content events) (is_content events))

  of_contents : (rows events : List ℕ) (a b : ℕ) → Otherwise (content_test c rows events a b)
  unfolding content_test held_test rows_test events_test
  of_contents rows events a b =
      let entries = entries_test (table_of rows (states_held c.source c.states) c.inputs c.outputs) in
      let valid = valid_events c.inputs c.outputs events in
      of_then (held_test c rows events) _
      (of_then (shape_test c) _ of_shape
      (of_then (rows_test c rows) _ (of_content entries)
      (of_then (limits_test c) _ of_limits
      (of_must (eqb valid c.events) (Content (content.Event valid)) (is_content (content.Event valid))))))
      (of_room a b)

-- and so with the file's own length
module _ (s : List ℕ) (a b n : ℕ) where
  abbrev after : Bool → Verdict
  after w = then (then (must w (Length (length s))) (blocks_test s (blocks s))) (content_test (contents_of s) (rows_of s) (events_of s) a b)

  first_told : verdict s a b ≡ Err (Length n) → after (is_whole (length s)) ≡ Err (Length n)
  unfolding verdict form_test
  first_told e = e

  told_length : (w : Bool) → after w ≡ Err (Length n) → length s ≡ n
  told_length false e = cc
  told_length true e =
      absurd (of_then (blocks_test s (blocks s)) _ (of_blocks s (blocks s)) (of_contents (contents_of s) (rows_of s) (events_of s) a b) n e)

pub own_length : (s : List ℕ) (a b : ℕ) (r : Refusal) → verdict s a b ≡ Err r → true_length r (length s) ≡ r
own_length s a b (Block f k) e = refl
own_length s a b Standard e = refl
own_length s a b (Content x) e = refl
own_length s a b (Length n) e = ap Length (told_length s a b n (is_whole (length s)) (first_told s a b n e))

-- A file over 7,680 bytes.
pub too_long : (s : List ℕ) (a b : ℕ) → most_bytes < length s → verdict s a b ≡ Err (Length (length s))
unfolding verdict form_test
too_long s a b h = rw (le-leb 1 (length s) (omega arith), lt-leb (length s) most_bytes h)
