-- What a function wrote is what its contract says. Assumes nothing.
use mathlib.Core.Path.{◌≡◌}
use mathlib.Core.Bool.{Bool, true}
use mathlib.Core.List.{List}
use Prim.Native.Nat.{ℕ}
use lib.Dec.{leb}
use lib.ListN.{length}
use borrow.Author.Tests.{leb-true}
use Rattle.lent.specs.Lent.{front, put_at}
use Rattle.lent.proofs.Laws.{put_start}
use Rattle.writer.specs.Answer.{Writing}
use Rattle.writerdoors.specs.Results.{write_size, write_results, Making}
use Rattle.writerdoors.specs.Results as doors

pub writes_by : (P : Writing → List ℕ → Type 0) {o t o' v t' : List ℕ} (w : Writing) → leb write_size (length t) ≡ true → P w o'
    → v ≡ write_results w → t' ≡ put_at t 0 v → Making P o t true o' t'
writes_by P {t = t} {v = v} {t' = t'} w e f g h =
    let told : t' ≡ front t (write_results w) = put_start t v (write_results w) t' (leb-true _ _ e) g h in
    rw told (doors.writes {w = w} e f)

-- what meets P meets Q
pub made_by : {P Q : Writing → List ℕ → Type 0} {o t : List ℕ} {a : Bool} {o' t' : List ℕ} → ((w : Writing) (d : List ℕ) → P w d → Q w d)
    → Making P o t a o' t' → Making Q o t a o' t'
made_by h (doors.short e) = doors.short e
made_by h (doors.writes {w = w} {out' = d} e f) = doors.writes {w = w} e (h w d f)
