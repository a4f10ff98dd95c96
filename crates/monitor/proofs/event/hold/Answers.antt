use Rattle.monitor.proofs.Lines.{held_room, held_full}
use lib.ListN.{length-set}
use mathlib.Core.Path.{refl}
use native.Mathlib.Omega.{arith}
use Rattle.monitor.proofs.event.hold.Goals as goal

pub returns-then-n-most : goal.returns-then-n-most
returns-then-n-most c = record { size = simp length-set; line = λ l e s. held_room _ _ _ _ _ l e s (omega arith) (omega arith) refl }

pub returns-else-n-most : goal.returns-else-n-most
returns-else-n-most c =
    let u = c.copy_within.ensures in
    record { size = simp length-set u.len; line = λ l e s. held_full _ _ _ _ _ l e s _ (omega arith) (omega arith) (omega arith) u.len u.by_index.0 u.by_index.2 refl }
