use Rattle.std.specs.Prelude.{None}
use Rattle.std.proofs.Common.{◌≡◌}
use Rattle.table.specs.First.{first}
use Rattle.table.specs.Tests.{invalid_at}
use Rattle.table.proofs.events.Given as goal

-- none of the events so far is invalid
abbrev pub invariant-loop-index : goal.invariant-loop-index
invariant-loop-index l = first (invalid_at l.trace l.inputs l.outputs) l.index ≡ None
