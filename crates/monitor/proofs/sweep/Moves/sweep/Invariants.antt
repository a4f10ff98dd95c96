use Rattle.monitor.specs.Sweep.{Level, SweptFrom}
use Rattle.std.proofs.Common.{length}
use Rattle.monitor.proofs.sweep.Moves.sweep.Given as goal

abbrev pub invariant-loop-w : goal.invariant-loop-w
invariant-loop-w l =
    record {
      above : Level l.set l.w l.above;
      swept : SweptFrom l.self.rows.now l.self.width l.self.losses l.line l.w (length l.line) l.initial.set l.set;
    }
