use Prim.Native.Nat.{ℕ, ◌^◌, ◌<◌}
use Rattle.states.specs.In.{In}
use Rattle.states.specs.Rows.{Leads}
use Rattle.states.proofs.Through.{Going}
use Rattle.run.proofs.column.Columns.led.Given as goal

abbrev pub invariant-loop-s : goal.invariant-loop-s
invariant-loop-s l = (l.left < 2 ^ 64) × Going (Leads l.self.rows.now l.self.width l.column) l.from l.left l.out × ((q : ℕ) → In q l.left → In q l.from)

abbrev pub decreases-loop-s : goal.decreases-loop-s
decreases-loop-s l = l.left
