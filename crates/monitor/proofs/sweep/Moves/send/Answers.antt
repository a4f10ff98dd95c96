use Rattle.monitor.proofs.Steps.{sending_none, sending_more, sending_all}
use native.Mathlib.Omega.{arith}
use Rattle.monitor.proofs.sweep.Moves.send.Goals as goal

pub loop-w-init : goal.loop-w-init
loop-w-init c = sending_none _ _ _ _

pub loop-w-preserved : goal.loop-w-preserved
loop-w-preserved c = sending_more _ _ _ _ _ _ _ _ _ c.loop-w.invariant c.level.ensures c.sent-x.ensures c.store.ensures

pub returns-2 : goal.returns-2
returns-2 c = sending_all _ _ _ _ _ _ _ (omega arith) (sending_more _ _ _ _ _ _ _ _ _ c.loop-w.invariant c.level.ensures c.sent-x.ensures c.store.ensures)
