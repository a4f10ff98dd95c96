-- `list_file` meets its contract. Assumes nothing.
use mathlib.Core.Bool.{true, false}
use mathlib.Core.Path.{refl}
use Prim.Native.Nat.{ℕ}
use lib.ListN.{length-replicate}
use Rattle.std.proofs.lemmas.Bool.{false≢true}
use Rattle.lister.proofs.Writing.{writes}
use Rattle.lister.proofs.list_file.Goals as goal

pub returns-in-Ok : goal.returns-in-Ok
returns-in-Ok g c =
    writes true (length-replicate {A = ℕ} 4096 0) (length-replicate {A = ℕ} 49152 0) c.judge-judged.ensures c.outcome.ensures
    (λ _. c.in-Ok.ensures)

pub returns-in-Err : goal.returns-in-Err
returns-in-Err g c =
    writes false (length-replicate {A = ℕ} 4096 0) (length-replicate {A = ℕ} 49152 0) c.judge-judged.ensures refl (λ e. absurd (false≢true e))
