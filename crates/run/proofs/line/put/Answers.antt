use mathlib.Core.Path.{refl}
use Rattle.states.proofs.Words.{written_none, written_more}
use native.Mathlib.Omega.{arith}
use Rattle.run.proofs.line.put.Goals as goal

pub loop-i-init : goal.loop-i-init
loop-i-init c = written_none _ _ _

pub loop-i-preserved : goal.loop-i-preserved
loop-i-preserved c = written_more _ _ _ _ _ _ _ refl (omega (arith, c.loop-i.invariant.size)) refl c.loop-i.invariant
