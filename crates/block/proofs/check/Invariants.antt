use Rattle.std.proofs.Common.{◌≡◌, ◌*◌, ◌≤◌}
use Rattle.block.specs.Block.{weighed}
use Rattle.block.proofs.check.Given as goal

abbrev pub invariant-loop-i : goal.invariant-loop-i
invariant-loop-i l = (l.sum ≤ 130050 * l.i) × (l.sum ≡ weighed l.b l.i)
