-- Which block is told, and with which flaw. Assumes nothing.
use Rattle.std.specs.Prelude.{Ok, Err}
use mathlib.Core.Path.{◌≡◌, refl, sym, ap, ◌∙◌}
use mathlib.Core.Bool.{Bool, true, false}
use mathlib.Core.List.{List}
use Prim.Native.Nat.{ℕ, zero, suc, ◌<◌}
use native.Mathlib.Omega.{arith}
use lib.Dec.{eqb, leb}
use lib.ListN.{length}
use Rattle.table.proofs.Checks.{clash}
use Rattle.table.specs.Bytes.{table_of}
use Rattle.table.specs.Tests.{counts_test, length_test, entries_test, bounds_test}
use Rattle.table.specs.declared.answer.Refusal as table
use Rattle.table.specs.declared.answer.Refusal.TheVariants as content
use Rattle.table.specs.Test.{Test}
use Rattle.flaw.specs.declared.Flaw.{Flaw}
use Rattle.flaw.specs.Test.{Test as BlockTest}
use Rattle.block.proofs.Laws.{block_passes}
use Rattle.house.specs.Limits.{most_events}
use Rattle.house.specs.File.{block_at, blocks, block_before, rows_of, events_of, contents_of}
use Rattle.house.specs.Laws.{Faulty, BlockTold}
use Rattle.house.specs.Reading.{is_whole, is_standard, states_held, valid_events, blocks_test, form_test, shape_test, rows_test, limits_test, events_test, held_test, room_test, content_test, verdict}
use Rattle.house.specs.Verdicts.{must, of_block, of_table, then}
use Rattle.house.specs.declared.answer.Contents.{Contents}
use Rattle.house.specs.declared.answer.Refusal.{Refusal}
use Rattle.house.specs.declared.answer.Refusal.TheVariants.{Length, Block, Standard, Content}
use Rattle.house.specs.Verdict.{Verdict}
use Rattle.house.proofs.Forms.{at_block, each, all}
use Rattle.house.proofs.Verdicts.{blocks_bad}

-- WHAT A FILE HOLDS IS NEVER TOLD AS A BLOCK

abbrev Elsewhere : Verdict → Type 0
Elsewhere v = (f : Flaw) (k : ℕ) → v ≡ Err (Block f k) → ⊥

of_must : (b : Bool) (r : Refusal) → Elsewhere (Err r) → Elsewhere (must b r)
of_must true r w = λ f k e. clash (cc)
of_must false r w = w

of_then : (v w : Verdict) → Elsewhere v → Elsewhere w → Elsewhere (then v w)
of_then (Ok _) w f g = g
of_then (Err r) w f g = f

is_content : (r : table.Refusal) → Elsewhere (Err (Content r))
is_content r f k e = clash (cc)

of_content : (t : Test) → Elsewhere (of_table t)
of_content (Ok _) = λ f k e. clash (cc)
of_content (Err r) = is_content r

module _ (c : Contents) where
  of_shape : Elsewhere (shape_test c)
  unfolding shape_test
  of_shape =
      let counts = counts_test c.states c.inputs c.outputs in
      let rows = length_test c.rows (states_held c.source c.states) c.inputs c.outputs in
      let box = is_standard c.source c.states c.inputs c.outputs in
      of_then (of_table counts) _ (of_content counts)
      (of_then (must box Standard) _ (of_must box Standard (λ f k e. clash (cc))) (of_content rows))

  of_limits : Elsewhere (limits_test c)
  unfolding limits_test
  of_limits =
      let bounds = bounds_test c.waiting c.losses in
      let events = content.Events c.events in
      of_then (of_table bounds) _ (of_content bounds) (of_must (leb c.events most_events) (Content events) (is_content events))

  of_room : (a b : ℕ) → Elsewhere (room_test c a b)
  unfolding room_test
  of_room a b =
      let rows = content.Buffer c.rows in
      let events = content.Buffer c.events in
      of_then (must (leb c.rows a) (Content rows)) _ (of_must (leb c.rows a) (Content rows) (is_content rows))
      (of_must (leb c.events b) (Content events) (is_content events))

  of_contents : (rows events : List ℕ) (a b : ℕ) → Elsewhere (content_test c rows events a b)
  unfolding content_test held_test rows_test events_test
  of_contents rows events a b =
      let entries = entries_test (table_of rows (states_held c.source c.states) c.inputs c.outputs) in
      let valid = valid_events c.inputs c.outputs events in
      of_then (held_test c rows events) _
      (of_then (shape_test c) _ of_shape
      (of_then (rows_test c rows) _ (of_content entries)
      (of_then (limits_test c) _ of_limits
      (of_must (eqb valid c.events) (Content (content.Event valid)) (is_content (content.Event valid))))))
      (of_room a b)

-- THE BLOCKS

module _ (s : List ℕ) (f : Flaw) (k : ℕ) where
  -- block k is the first of n that is at fault
  abbrev First : ℕ → Type 0
  First n = (k < n) × ((j : ℕ) → j < k → at_block s j ≡ Ok tt) × (at_block s k ≡ Err f)

  here : (n : ℕ) (t : BlockTest) → at_block s n ≡ t → of_block t n ≡ Err (Block f k) → blocks_test s n ≡ Ok tt → First (suc n)
  here n (Ok _) g h p = clash (cc)
  here n (Err x) g h p =
      let i : k ≡ n = cc in
      let e : x ≡ f = cc in
      (omega arith, rw i (each s n p), rw i (g ∙ ap Err e))

  found : (n : ℕ) → blocks_test s n ≡ Err (Block f k) → First n
  unfolding blocks_test
  found zero e = clash (cc)
  found (suc n) e = go (found n) (blocks_test s n) refl e
    where
      go : (blocks_test s n ≡ Err (Block f k) → First n) → (v : Verdict) → blocks_test s n ≡ v
          → then v (of_block (at_block s n) n) ≡ Err (Block f k) → First (suc n)
      go again (Err r) g h = let (l, b, x) = again (g ∙ h) in (omega arith, b, x)
      go again (Ok _) g h = here n (at_block s n) refl h g

  told : (n : ℕ) → First n → blocks_test s n ≡ Err (Block f k)
  told n (l, b, x) = sym (blocks_bad s k n (Err (Block f k)) l (all s k b) (rw x) refl)

module _ (s : List ℕ) (a b : ℕ) (f : Flaw) (k : ℕ) where
  -- the tests after those of the blocks
  abbrev rest : Verdict
  rest = content_test (contents_of s) (rows_of s) (events_of s) a b

  to : (w : Bool) → is_whole (length s) ≡ w
      → then (then (must w (Length (length s))) (blocks_test s (blocks s))) rest ≡ Err (Block f k) → Faulty s f k
  to false g e = clash (cc)
  to true g e = go (blocks_test s (blocks s)) refl e
    where
      go : (v : Verdict) → blocks_test s (blocks s) ≡ v → then v rest ≡ Err (Block f k) → Faulty s f k
      go (Ok _) h e = absurd (of_contents (contents_of s) (rows_of s) (events_of s) a b f k e)
      go (Err r) h e =
          let (l, x, y) = found s f k (blocks s) (h ∙ e) in
          record { whole = g; counted = l; before = λ j m. (block_passes (block_at s j) j (block_before s j)).0 (x j m); flawed = y }

  from : Faulty s f k → verdict s a b ≡ Err (Block f k)
  unfolding verdict form_test
  from x =
      rw (
        x.whole,
        told s f k (blocks s) (x.counted, λ j l. (block_passes (block_at s j) j (block_before s j)).1 (x.before j l), x.flawed),
      )

pub block_told : BlockTold
unfolding verdict form_test
block_told s a b f k = (to s a b f k (is_whole (length s)) refl, from s a b f k)
