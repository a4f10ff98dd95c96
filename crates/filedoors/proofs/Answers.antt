-- What a function wrote is what its contract says. Assumes nothing.
use mathlib.Core.Path.{◌≡◌}
use mathlib.Core.Bool.{true}
use mathlib.Core.List.{List}
use Prim.Native.Nat.{ℕ}
use lib.Dec.{leb}
use lib.ListN.{length}
use borrow.Author.Tests.{leb-true}
use Rattle.lent.specs.Lent.{front, put_at}
use Rattle.lent.proofs.Laws.{put_start}
use Rattle.run.specs.Ran.{Ran}
use Rattle.run.specs.Run.{Runs}
use Rattle.house.specs.Verdict.{Reading}
use Rattle.house.specs.Reading.{Answers}
use Rattle.table.proofs.Checks.{both}
use Rattle.lister.specs.declared.Summary.{Summary}
use Rattle.lister.specs.Putting.{text_room, Texts}
use Rattle.filedoors.specs.Results.{run_size, run_results, read_size, read_results, listing_size, listing_results}
use Rattle.filedoors.specs.Doors.{Running, Read, roomy, Listing}
use Rattle.filedoors.specs.Doors as doors

pub runs_by : {rows : List ℕ} {s i o B c : ℕ} {trace out t out' v t' : List ℕ} (r : Ran) → leb run_size (length t) ≡ true
    → Runs rows s i o B c trace out r out' → v ≡ run_results r → t' ≡ put_at t 0 v → Running rows s i o B c trace out t true out' t'
runs_by {t = t} {v = v} {t' = t'} r e f g h =
    let z : t' ≡ front t (run_results r) = put_start t v (run_results r) t' (leb-true _ _ e) g h in
    rw z (doors.ran {r = r} e f)

pub reads_by : {file rows events t rows' events' v t' : List ℕ} (r : Reading) → leb read_size (length t) ≡ true
    → Answers file rows events r rows' events' → v ≡ read_results r → t' ≡ put_at t 0 v → Read file rows events t true rows' events' t'
reads_by {t = t} {v = v} {t' = t'} r e f g h =
    let z : t' ≡ front t (read_results r) = put_start t v (read_results r) t' (leb-true _ _ e) g h in
    rw z (doors.read {r = r} e f)

pub lists_by : {file : List ℕ} {n : ℕ} {out t out' v t' : List ℕ} (r : Summary) → roomy out t ≡ true → Texts file n out r out'
    → v ≡ listing_results r → t' ≡ put_at t 0 v → Listing file n out t true out' t'
lists_by {out = out} {t = t} {v = v} {t' = t'} r e f g h =
    let room = (both (leb text_room (length out)) (leb listing_size (length t)) e).1 in
    let z : t' ≡ front t (listing_results r) = put_start t v (listing_results r) t' (leb-true _ _ room) g h in
    rw z (doors.listed {r = r} e f)
