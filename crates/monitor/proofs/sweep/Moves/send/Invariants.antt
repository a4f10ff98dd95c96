use Rattle.monitor.proofs.Steps.{Sending}
use Rattle.monitor.proofs.sweep.Moves.send.Given as goal

abbrev pub invariant-loop-w : goal.invariant-loop-w
invariant-loop-w l = Sending l.self.rows.now l.self.width l.column l.w l.initial.set l.set
