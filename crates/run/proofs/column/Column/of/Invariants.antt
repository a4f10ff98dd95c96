use Rattle.run.specs.Column.{Sorted}
use Rattle.run.proofs.column.Column.of.Given as goal

abbrev pub invariant-loop-s : goal.invariant-loop-s
invariant-loop-s l = Sorted l.rows l.width l.column l.s l.x
