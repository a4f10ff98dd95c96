use Prim.Native.Nat.{◌+◌}
use Rattle.run.proofs.Running.{Following}
use Rattle.run.proofs.trace.followed.Given as goal

abbrev pub invariant-loop-k : goal.invariant-loop-k
invariant-loop-k l = Following l.rules.rows.now l.rules.inputs l.rules.outputs l.rules.waiting l.rules.losses l.trace l.initial.out l.window l.k l.out (l.most + 1)
