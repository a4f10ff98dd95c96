use Rattle.std.proofs.Common.{ℕ, ◌↔◌}
use Rattle.states.specs.In.{In, AnyOf}
use Rattle.states.proofs.joined.Given as goal

abbrev pub invariant-loop-word : goal.invariant-loop-word
invariant-loop-word l = (s : ℕ) → In s l.all ↔ AnyOf l.word-index l.words s
