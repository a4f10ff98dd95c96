-- What the function wrote is what its contract says. Assumes nothing.
use mathlib.Core.Path.{◌≡◌}
use mathlib.Core.Bool.{true}
use mathlib.Core.List.{List}
use Prim.Native.Nat.{ℕ, ◌≤◌}
use native.Mathlib.Omega.{arith}
use lib.Dec.{leb}
use lib.ListN.{length}
use borrow.Author.Tests.{leb-true}
use Rattle.lent.specs.Lent.{front, put_at}
use Rattle.lent.proofs.Laws.{put_start}
use Rattle.standard.specs.Box.{standard_rows}
use Rattle.standard.proofs.Laws.{is_valid}
use Rattle.standarddoors.specs.Results.{rows_size, Giving}
use Rattle.standarddoors.specs.Results as doors

pub gives_by : {d p d' : List ℕ} → leb rows_size (length d) ≡ true → p ≡ standard_rows → d' ≡ put_at d 0 p → Giving d true d'
gives_by {d = d} {p = p} {d' = d'} e f h =
    let room : rows_size ≤ length d = leb-true rows_size (length d) e in
    let given : d' ≡ front d standard_rows = put_start d p standard_rows d' (omega (arith, room, is_valid.rows)) f h in
    rw given (doors.gives e)
