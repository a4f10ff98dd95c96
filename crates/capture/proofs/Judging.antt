-- Every statement of specs/Judging.antt, proved: by the monitor's published laws alone. Assumes nothing.
use Rattle.std.specs.Prelude.{Option, Ok}
use mathlib.Core.Path.{◌≡◌, refl, subst}
use mathlib.Core.List.{List}
use Prim.Native.Nat.{ℕ}
use native.Mathlib.Omega.{arith}
use lib.ListN.{take, get_or}
use Rattle.table.specs.Bytes.{table_of}
use Rattle.run.specs.Ran.{Ran}
use Rattle.monitor.specs.Laws.{Follows}
use Rattle.run.specs.Run.{RunTo, Runs, refused, ran}
use Rattle.monitor.proofs.Laws.{plausible_after_feeding}
use Rattle.capture.specs.Capture.{events_of}
use Rattle.capture.specs.Judging.{RunAsImported, FedAsImported, FedAsHandedOut, FedAsRead, TraceTaken}
use Rattle.capture.proofs.Laws.{what_is_written, in_order, exactly_the_events, all_of_layout, layout_valid, one_each}

-- what a run that passed has done
run_done : (rows : List ℕ) (q i o B c : ℕ) (trace before : List ℕ) (r : Ran) (after : List ℕ) (f : Option ℕ)
    → Runs rows q i o B c trace before r after → r ≡ Ok f → RunTo rows q i o B c trace before after f
run_done rows q i o B c trace before r after f (refused {r = r'} e) g =
    absurd (cc)
run_done rows q i o B c trace before r after f (ran {f = f'} e t) g =
    let h : f' ≡ f = cc in
    subst (λ (x : Option ℕ). RunTo rows q i o B c trace before after x) h t

pub run_as_imported : RunAsImported
run_as_imported s d n d' rows q i o B c before after f x r =
    subst (λ (l : List ℕ). RunTo rows q i o B c l before after f) (what_is_written s d n d' x).start
    (run_done rows q i o B c (take n d') before _ after f r refl)

pub fed_as_imported : FedAsImported
fed_as_imported s d n d' rows q i o B c t x p h =
    subst (λ (l : List ℕ). Follows (table_of rows q i o) B c l t) (what_is_written s d n d' x).start
    (plausible_after_feeding rows q i o B c (take n d') t p h)

pub fed_as_handed_out : FedAsHandedOut
fed_as_handed_out s bytes j rows q i o B c t x p h =
    subst (λ (l : List ℕ). Follows (table_of rows q i o) B c l t) (in_order s bytes j x).0 (plausible_after_feeding rows q i o B c bytes t p h)

pub fed_as_read : FedAsRead
fed_as_read s bytes j rows q i o B c t x p h =
    subst (λ (l : List ℕ). Follows (table_of rows q i o) B c l t) (exactly_the_events s bytes j x).1
    (plausible_after_feeding rows q i o B c bytes t p h)

pub trace_taken : TraceTaken
trace_taken s g =
    record {
      few = omega (arith, g.few, (one_each s).0);
      valid = λ k l. (layout_valid (get_or (events_of s) k 0)).0 (all_of_layout s g k l);
    }
