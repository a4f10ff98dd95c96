-- What the tests of the contents say where they pass, and what the answer is then. Assumes nothing.
use Rattle.std.specs.Prelude.{Ok, Err}
use mathlib.Core.Path.{◌≡◌, refl}
use mathlib.Core.Bool.{true}
use mathlib.Core.List.{List}
use Prim.Native.Nat.{ℕ, ◌+◌, ◌*◌, ◌≤◌, ◌<◌}
use native.Mathlib.Nat.{mul-le-mul}
use native.Mathlib.Omega.{arith}
use lib.Dec.{leb}
use lib.ListN.{length}
use borrow.Author.Tests.{leb-true}
use Rattle.lent.proofs.Laws.{put_fits}
use Rattle.model.specs.Limits.{most_states, most_inputs, most_outputs}
use Rattle.table.proofs.Checks.{clash}
use Rattle.table.proofs.Laws.{counts_pass, length_passes}
use Rattle.table.specs.Tests.{counts_test, length_test}
use Rattle.table.specs.declared.answer.Refusal.TheVariants as told
use Rattle.house.specs.Limits.{most_rows}
use Rattle.house.specs.Verdicts.{must, of_table, is_good}
use Rattle.house.specs.File.{rows_of, events_of, contents_of}
use Rattle.house.specs.Reading.{is_standard, states_held, shape_test, rows_test, limits_test, events_test, held_test, room_test, content_test, form_test, verdict, answer, after, handed}
use Rattle.house.specs.declared.answer.Contents.{Contents}
use Rattle.house.specs.Verdict.{Reading}
use Rattle.house.specs.declared.answer.Refusal.TheVariants as refusal
use Rattle.house.specs.declared.answer.Source.{Source}
use Rattle.house.specs.declared.answer.Source.TheVariants.{Rows, Standard}
use Rattle.house.specs.Verdict.{Verdict}
use Rattle.house.proofs.Verdicts.{must_passed, table_passed, then_passed}

-- counts that pass fit a byte
pub counts_small : (s i o : ℕ) → counts_test s i o ≡ Ok tt → (s < 256) × (i < 256) × (o < 256)
counts_small s i o e = let (a, b, c) = (counts_pass s i o).0 e in (omega arith, omega arith, omega arith)

held_below : (x : Source) (s : ℕ) → states_held x s ≤ s
held_below Rows s = omega arith
held_below Standard s = omega arith

module _ (c : Contents) where
  -- 2, 3, 14 and 1 pass
  pub shape_passed : shape_test c ≡ Ok tt
      → (counts_test c.states c.inputs c.outputs ≡ Ok tt)
      × (is_standard c.source c.states c.inputs c.outputs ≡ true)
      × (length_test c.rows (states_held c.source c.states) c.inputs c.outputs ≡ Ok tt)
  unfolding shape_test
  shape_passed e =
      let (p, q) = then_passed (of_table (counts_test c.states c.inputs c.outputs)) _ e in
      let (r, t) = then_passed (must (is_standard c.source c.states c.inputs c.outputs) refusal.Standard) _ q in
      (table_passed _ p, must_passed _ refusal.Standard r, table_passed _ t)

  -- all tests of what is held pass
  pub record Passes (rows events : List ℕ) : Type 0 where
    pub shape : shape_test c ≡ Ok tt
    pub entries : rows_test c rows ≡ Ok tt
    pub limits : limits_test c ≡ Ok tt
    pub trace : events_test c events ≡ Ok tt

  pub held_passed : (rows events : List ℕ) → held_test c rows events ≡ Ok tt → Passes rows events
  unfolding held_test
  held_passed rows events e =
      let (p, q) = then_passed (shape_test c) _ e in
      let (r, t) = then_passed (rows_test c rows) _ q in
      let (u, v) = then_passed (limits_test c) _ t in
      record { shape = p; entries = r; limits = u; trace = v }

  -- 10 passes
  pub room_passed : (a b : ℕ) → room_test c a b ≡ Ok tt → (c.rows ≤ a) × (c.events ≤ b)
  unfolding room_test
  room_passed a b e =
      let (p, q) = then_passed (must (leb c.rows a) (refusal.Content (told.Buffer c.rows))) _ e in (
        leb-true _ _ (must_passed (leb c.rows a) (refusal.Content (told.Buffer c.rows)) p),
        leb-true _ _ (must_passed (leb c.events b) (refusal.Content (told.Buffer c.events)) q),
      )

  -- of the right length, the rows fit
  pub rows_fit : shape_test c ≡ Ok tt → c.rows ≤ most_rows
  rows_fit e =
      let (p, q, r) = shape_passed e in
      let (s, i, o) = (counts_pass c.states c.inputs c.outputs).0 p in
      let n = (length_passes c.rows (states_held c.source c.states) c.inputs c.outputs).0 r in
      let m : states_held c.source c.states * (c.inputs + c.outputs) ≤ most_rows =
      mul-le-mul {n₂ = most_states} {m₂ = most_inputs + most_outputs} (omega (arith, held_below c.source c.states)) (omega arith) in
      omega arith

-- THE ANSWER

module _ (s : List ℕ) (a b : ℕ) where
  -- all tests pass
  pub verdict_passed : verdict s a b ≡ Ok tt
      → (form_test s ≡ Ok tt) × (held_test (contents_of s) (rows_of s) (events_of s) ≡ Ok tt) × (room_test (contents_of s) a b ≡ Ok tt)
  unfolding verdict content_test
  verdict_passed e =
      let (p, q) = then_passed (form_test s) _ e in
      let (h, r) = then_passed (held_test (contents_of s) (rows_of s) (events_of s)) _ q in
      (p, h, r)

  -- then both buffers have room
  pub roomy : verdict s a b ≡ Ok tt → (length (rows_of s) ≤ a) × (length (events_of s) ≤ b)
  unfolding contents_of
  roomy e = room_passed (contents_of s) a b (verdict_passed e).2

pub good_passed : (v : Verdict) (c : Contents) (r : Reading) → r ≡ answer v c → is_good r ≡ true → v ≡ Ok tt
good_passed (Ok _) c r e f = refl
good_passed (Err x) c r e f = clash (cc)

pub good_contents : (v : Verdict) (c x : Contents) → Ok x ≡ answer v c → x ≡ c
good_contents (Ok _) c x e = cc
good_contents (Err r) c x e = clash (cc)

-- where there is room, all that is held is handed out
pub handed_after : (r : Reading) (d p : List ℕ) → (is_good r ≡ true → length p ≤ length d) → handed r d p ≡ after r d p
handed_after (Ok c) d p h = put_fits d p (h refl)
handed_after (Err x) d p h = refl
