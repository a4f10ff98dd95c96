-- From the tests and the bytes that are laid out to what is written. Assumes nothing.
use Rattle.std.specs.Prelude.{Ok, Err}
use mathlib.Core.Path.{◌≡◌, refl, sym, ap, ◌∙◌}
use mathlib.Core.List.{List, ◌++◌}
use Prim.Native.Nat.{ℕ, ◌≤◌, ◌<◌}
use native.Mathlib.Omega.{arith}
use lib.ListN.{length, drop}
use lib.Seq.{take_at, drop_at}
use borrow.Author.Tests.{le-leb, lt-leb}
use Rattle.std.proofs.Common.{rules, Fits, w8}
use Rattle.table.specs.declared.answer.Refusal.TheVariants.{Buffer}
use Rattle.house.specs.Laws.{GoodRows, GoodContents}
use Rattle.house.specs.Reading.{given, held_test}
use Rattle.house.specs.declared.answer.Contents.{Contents}
use Rattle.house.specs.declared.answer.Refusal.{Refusal}
use Rattle.house.specs.declared.answer.Refusal.TheVariants.{Content}
use Rattle.house.specs.declared.answer.Source.{Source}
use Rattle.house.specs.declared.answer.Source.TheVariants.{Rows, Standard}
use Rattle.house.specs.Verdict.{Verdict}
use Rattle.house.proofs.Laws.{contents_pass}
use Rattle.writer.specs.Laws.{Counted}
use Rattle.writer.specs.Layout.{file_of}
use Rattle.writer.specs.Writing.{needed, write_test, IsFile, Writes}
use Rattle.writer.proofs.Laws.{good_laid, long_as_needed}

module _ (c : Contents) (rows trace o : List ℕ) where
  -- contents that are refused are the answer
  pub held_refuses : (v : Verdict) (r : Refusal) → v ≡ held_test c rows trace → v ≡ Err r → Writes c rows trace o (Err r) o
  unfolding write_test
  held_refuses v r e f = record { answer = rw (← e, f); left = refl }

  module _ (n : ℕ) (e : n ≡ needed c) (k : Counted c rows trace) (g : GoodContents c rows trace) where
    -- good contents that have no room
    pub no_room : length o < n → Writes c rows trace o (Err (Content (Buffer n))) o
    unfolding write_test
    no_room l =
        let short : length o < needed c = omega arith in
        record { answer = rw (e, (contents_pass c rows trace k.row_count k.event_count).1 g, lt-leb _ _ short); left = refl }

    -- and those that have
    pub placed : (f : List ℕ) → n ≤ length o → f ≡ file_of c rows trace → Writes c rows trace o (Ok n) (f ++ drop n o)
    unfolding write_test
    placed f l h =
        let is : IsFile f c rows trace = rw h (good_laid c rows trace k g) in
        let long : length f ≡ n = ap length h ∙ long_as_needed c rows trace k ∙ sym e in
        let fits : needed c ≤ length o = omega arith in
        record {
          answer = rw (e, (contents_pass c rows trace k.row_count k.event_count).1 g, le-leb _ _ fits);
          left = record { fits = l; file = rw (take_at f (drop n o) n long) is; later = drop_at f (drop n o) n long };
        }

-- good counts fit a byte
pub counts_small : (x : Source) (s i o : ℕ) (rows : List ℕ) → GoodRows x s i o rows → (s < 256) × (i < 256) × (o < 256)
counts_small Rows s i o rows v = (omega (arith, v.states.1), omega (arith, v.inputs.1), omega (arith, v.outputs.1))
counts_small Standard s i o rows (a, b, c, e) = (omega arith, omega arith, omega arith)

-- what passed is good, and so its counts and its bounds fit a byte
pub record Passes (c : Contents) (rows trace : List ℕ) : Type 0 where
  pub good : GoodContents c rows trace
  pub states : Fits w8 c.states
  pub inputs : Fits w8 c.inputs
  pub outputs : Fits w8 c.outputs
  pub waiting : Fits w8 c.waiting
  pub losses : Fits w8 c.losses

pub passes : (x : Source) (s i o waiting losses : ℕ) (rows trace : List ℕ) (v : Verdict)
    → v ≡ held_test (given x s i o waiting losses rows trace) rows trace → v ≡ Ok tt → Passes (given x s i o waiting losses rows trace) rows trace
passes x s i o waiting losses rows trace v e f =
    let c = given x s i o waiting losses rows trace in
    let good : GoodContents c rows trace = (contents_pass c rows trace refl refl).0 (sym e ∙ f) in
    let small = counts_small x s i o rows good.table in
    let bounds = good.bounds in
    record { good = good; states = search rules; inputs = search rules; outputs = search rules; waiting = search rules; losses = search rules }
