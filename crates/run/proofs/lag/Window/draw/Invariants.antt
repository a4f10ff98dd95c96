use Rattle.run.specs.Lag.{DrawnFrom}
use Rattle.run.specs.Window.{SameLine}
use Rattle.run.proofs.lag.Window.draw.Given as goal

abbrev pub invariant-loop-w : goal.invariant-loop-w
invariant-loop-w l =
    SameLine l.initial.self l.self
    × DrawnFrom l.prepared.columns.rows.now l.prepared.columns.width l.prepared.losses l.initial.self.line l.initial.self.base l.n l.w l.initial.self.words l.self.words
