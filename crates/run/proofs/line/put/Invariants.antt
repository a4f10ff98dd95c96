use Rattle.states.proofs.Words.{Written}
use lib.ListN.{get_or}
use Rattle.run.proofs.line.put.Given as goal

abbrev pub invariant-loop-i : goal.invariant-loop-i
invariant-loop-i l = Written l.place l.i (λ k. get_or l.byte-items k 0) l.initial.out l.out
