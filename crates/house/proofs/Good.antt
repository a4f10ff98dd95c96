-- A file is read exactly when it is good and the buffers have room. Assumes nothing.
use Rattle.std.specs.Prelude.{Option, Some, None, Ok}
use mathlib.Core.Path.{◌≡◌, refl, sym, ap, ◌∙◌}
use mathlib.Core.Bool.{true, false}
use mathlib.Core.List.{List, [], ◌∷◌}
use mathlib.Core.Logic.{◌↔◌}
use Prim.Native.Nat.{ℕ, ◌+◌, ◌*◌, ◌≤◌, ◌<◌}
use native.Mathlib.Nat.{zero-mul, mul-le-mul}
use native.Mathlib.Omega.{arith}
use lib.Dec.{eqb}
use lib.ListN.{length, get_or}
use borrow.Author.Tests.{eqb-true, eq-eqb, leb-true, le-leb}
use Rattle.model.specs.Limits.{most_states, most_inputs, most_outputs}
use Rattle.table.proofs.Checks.{clash, both}
use Rattle.table.proofs.Laws.{counts_pass, length_passes, entries_pass, table_passes, bounds_pass}
use Rattle.table.specs.Bytes.{symbol_of, table_of}
use Rattle.table.specs.Tests.{counts_test, length_test, entries_test, bounds_test}
use Rattle.table.specs.declared.answer.Refusal.TheVariants as told
use Rattle.table.specs.declared.answer.Symbol.{Symbol}
use Rattle.table.specs.declared.answer.Symbol.TheVariants.{Input, Output}
use Rattle.table.specs.Tests.{is_invalid}
use Rattle.house.specs.Limits.{most_events, most_rows, standard_states, standard_inputs, standard_outputs}
use Rattle.house.specs.Verdicts.{of_table}
use Rattle.house.specs.File.{rows_of, events_of, contents_of}
use Rattle.house.specs.Reading.{is_standard, states_held, valid_events, shape_test, rows_test, limits_test, events_test, held_test, room_test, content_test, verdict}
use Rattle.house.specs.Laws.{GoodRows, GoodContents, ContentsPass, RowsFit, ReadExactly}
use Rattle.house.specs.declared.answer.Contents.{Contents}
use Rattle.house.specs.declared.answer.Refusal.TheVariants as refusal
use Rattle.house.specs.declared.answer.Source.{Source}
use Rattle.house.specs.declared.answer.Source.TheVariants.{Rows, Standard}
use Rattle.house.proofs.Tests.{Passes, shape_passed, held_passed, room_passed, verdict_passed}
use Rattle.house.proofs.Events.{valid_all, valid_known}
use Rattle.house.proofs.Forms.{form_passes}
use Rattle.house.proofs.Verdicts.{must_passed, table_passed, then_passed}

-- ROWS

empty : (l : List ℕ) → length l ≡ 0 → l ≡ []
empty [] e = refl
empty (x ∷ l) e = absurd (omega arith)

-- 2, 3, 14, 1 and 4 pass exactly when the rows are good
module _ (s i o : ℕ) (rows : List ℕ) where
  abbrev Fits : Source → Type 0
  Fits x =
      (counts_test s i o ≡ Ok tt)
      × (is_standard x s i o ≡ true)
      × (length_test (length rows) (states_held x s) i o ≡ Ok tt)
      × (entries_test (table_of rows (states_held x s) i o) ≡ Ok tt)

  rows_good : (x : Source) → Fits x → GoodRows x s i o rows
  rows_good Rows (p, q, r, t) = (table_passes (table_of rows s i o)).0 (p, r, t)
  rows_good Standard (p, q, r, t) =
      let (a, q') = both (eqb s standard_states) _ q in
      let (b, c) = both (eqb i standard_inputs) _ q' in (
        eqb-true s standard_states a,
        eqb-true i standard_inputs b,
        eqb-true o standard_outputs c,
        empty rows ((length_passes (length rows) 0 i o).0 r ∙ zero-mul (i + o)),
      )

  good_fits : (x : Source) → GoodRows x s i o rows → Fits x
  good_fits Rows v = let (p, r, t) = (table_passes (table_of rows s i o)).1 v in (p, refl, r, t)
  good_fits Standard (a, b, c, n) = (
    (counts_pass s i o).1 ((omega arith, omega arith), (omega arith, omega arith), (omega arith, omega arith)),
    rw (eq-eqb s standard_states a, eq-eqb i standard_inputs b, eq-eqb o standard_outputs c),
    (length_passes (length rows) 0 i o).1 (ap length n ∙ sym (zero-mul (i + o))),
    (entries_pass (table_of rows 0 i o)).1 (λ s k t l. absurd (omega arith)),
  )

-- EVENTS

not_invalid : (x : Option Symbol) → is_invalid x ≡ false ↔ (x ≡ None → ⊥)
not_invalid (Some (Input a)) = (λ e z. clash (cc), λ f. refl)
not_invalid (Some (Output a)) = (λ e z. clash (cc), λ f. refl)
not_invalid None = (λ e. clash (cc), λ f. absurd (f refl))

-- ALL CONTENTS

module _ (c : Contents) (rows events : List ℕ) (n : c.rows ≡ length rows) (m : c.events ≡ length events) where
  all_valid : valid_events c.inputs c.outputs events ≡ c.events ↔ ((k : ℕ) → k < length events → symbol_of (get_or events k 0) c.inputs c.outputs ≡ None → ⊥)
  all_valid = (
    λ e k l. (not_invalid (symbol_of (get_or events k 0) c.inputs c.outputs)).0
        ((valid_known c.inputs c.outputs events c.events (sym e)).before k (omega arith)),
    λ h. sym (valid_all c.inputs c.outputs events c.events m
        (λ k l. (not_invalid (symbol_of (get_or events k 0) c.inputs c.outputs)).1 (h k (omega arith)))),
  )

  passed_good : Passes c rows events → GoodContents c rows events
  unfolding rows_test limits_test events_test
  passed_good p =
      let (s, t, l) = shape_passed c p.shape in
      let (x, y) = then_passed (of_table (bounds_test c.waiting c.losses)) _ p.limits in
      let few = leb-true c.events most_events (must_passed _ (refusal.Content (told.Events c.events)) y) in
      record {
        table = rows_good c.states c.inputs c.outputs rows c.source (s, t, rw n at l, table_passed _ p.entries);
        bounds = (bounds_pass c.waiting c.losses).0 (table_passed _ x);
        few = omega arith;
        valid = all_valid.0 (eqb-true _ _ (must_passed _ _ p.trace));
      }

  good_passed : GoodContents c rows events → held_test c rows events ≡ Ok tt
  unfolding held_test shape_test rows_test limits_test events_test
  good_passed g =
      let (s, t, l, r) = good_fits c.states c.inputs c.outputs rows c.source g.table in
      let few : c.events ≤ most_events = omega (arith, g.few) in
      rw (
        s,
        t,
        n,
        l,
        r,
        (bounds_pass c.waiting c.losses).1 g.bounds,
        le-leb _ _ few,
        eq-eqb _ _ (all_valid.1 g.valid),
      )

pub contents_pass : ContentsPass
contents_pass c rows events n m =
    (λ e. passed_good c rows events n m (held_passed c rows events e), λ g. good_passed c rows events n m g)

-- so the rows are at most those of the largest table
rows_below : (x : Source) (s i o : ℕ) (rows : List ℕ) → GoodRows x s i o rows → length rows ≤ most_rows
rows_below Rows s i o rows v =
    let p : s * (i + o) ≤ most_rows =
    mul-le-mul {n₂ = most_states} {m₂ = most_inputs + most_outputs} v.states.1 (omega (arith, v.inputs.1, v.outputs.1)) in
    omega (arith, v.rows)
rows_below Standard s i o rows (a, b, c, e) = rw e (omega arith)

pub rows_fit : RowsFit
rows_fit c rows events g = rows_below c.source c.states c.inputs c.outputs rows g.table

-- THE FILE

pub read_exactly : ReadExactly
unfolding verdict content_test room_test contents_of
read_exactly s a b = (
  λ e.
      let (f, h, r) = verdict_passed s a b e in
      let (l, m) = room_passed (contents_of s) a b r in (
        record { form = (form_passes s).0 f; contents = (contents_pass (contents_of s) (rows_of s) (events_of s) refl refl).0 h },
        l,
        m,
      ),
  λ (g, l, m).
      rw (
        (form_passes s).1 g.form,
        (contents_pass (contents_of s) (rows_of s) (events_of s) refl refl).1 g.contents,
        le-leb _ _ l,
        le-leb _ _ m,
      ),
)
