-- A flag that a run or a listing gives has a place in the trace, so its word holds it. Assumes nothing.
use Rattle.std.specs.Prelude.{Option, Some, None, Ok, Err}
use mathlib.Core.Path.{◌≡◌, refl}
use mathlib.Core.Bool.{Bool, true, false}
use mathlib.Core.List.{List}
use Prim.Native.Nat.{ℕ, ◌^◌, ◌≤◌, ◌<◌}
use native.Mathlib.Omega.{arith}
use lib.Dec.{leb}
use lib.ListN.{length}
use borrow.Author.Tests.{leb-true}
use Rattle.model.specs.Limits.{most_events}
use Rattle.model.specs.Model.{events, box, FlagIs}
use Rattle.model.proofs.Bytes.{events_length}
use Rattle.table.specs.Bytes.{table_of}
use Rattle.table.specs.Tests.{must, events_test}
use Rattle.table.specs.declared.answer.Refusal.{Refusal}
use Rattle.table.specs.Test.{Test}
use Rattle.table.proofs.Checks.{clash}
use Rattle.session.specs.Open.{then, opening}
use Rattle.session.specs.Session.{place_of}
use Rattle.run.specs.Ran.{Ran, flag_of}
use Rattle.run.specs.Run as run
use Rattle.run.specs.Run.{limit_test, buffer_test, traced, run_test, Runs}
use Rattle.lister.specs.declared.Summary.{Summary}
use Rattle.lister.specs.Putting.{Texts}
use Rattle.lister.proofs.Laws.{text_placed}
use Rattle.figures.specs.Figures.{flag_word}
use Rattle.figures.proofs.Laws.{none_fits, place_fits}

then_second : (a b : Test) → then a b ≡ Ok tt → b ≡ Ok tt
then_second (Ok _) b e = e
then_second (Err r) b e = clash (cc)

then_first : (a b : Test) → then a b ≡ Ok tt → a ≡ Ok tt
then_first (Ok _) b e = refl
then_first (Err r) b e = clash (cc)

must_true : (t : Bool) (r : Refusal) → must t r (Ok tt) ≡ Ok tt → t ≡ true
must_true true r e = refl
must_true false r e = clash (cc)

few : (rows : List ℕ) (s i o B c : ℕ) (trace : List ℕ) (room : ℕ) → run_test rows s i o B c trace room ≡ Ok tt → length trace ≤ most_events
unfolding run_test
few rows s i o B c trace room e =
    let t = then_second (opening rows s i o B c) (traced trace i o room) e in
    let l = then_first (limit_test (length trace)) (then (events_test trace i o) (buffer_test (length trace) room)) t in
    leb-true (length trace) most_events (must_true (leb (length trace) most_events) _ l)

is_small : (rows : List ℕ) (s i o B c : ℕ) (trace : List ℕ) (f : Option ℕ) → length trace ≤ most_events
    → FlagIs (box (table_of rows s i o)) B c (events trace) (place_of f) → flag_word f < 2 ^ 64
is_small rows s i o B c trace None h k = none_fits
is_small rows s i o B c trace (Some place) h k = place_fits place (omega (arith, k.0, events_length trace))

pub ran_small : (rows : List ℕ) (s i o B c : ℕ) (trace out : List ℕ) (r : Ran) (out' : List ℕ) → Runs rows s i o B c trace out r out' → flag_word (flag_of r) < 2 ^ 64
ran_small rows s i o B c trace out _ _ (run.refused _) = none_fits
ran_small rows s i o B c trace out _ _ (run.ran {f} e t) = is_small rows s i o B c trace f (few rows s i o B c trace (length out) e) t.flag

pub listed_small : (s : List ℕ) (n : ℕ) (o : List ℕ) (r : Summary) (o' : List ℕ) → Texts s n o r o' → flag_word r.flag < 2 ^ 64
listed_small s n o r o' t = go r.flag refl
  where
    go : (f : Option ℕ) → r.flag ≡ f → flag_word f < 2 ^ 64
    go None e = none_fits
    go (Some place) e =
        let p = text_placed s n o r o' t in
        place_fits place (omega (arith, p.few, p.within place e))
