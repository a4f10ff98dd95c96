use lib.ListN.{get_or-replicate}
use Rattle.session.proofs.Passes.{joined_more}
use Rattle.session.specs.Sets.{InCell}
use Rattle.states.proofs.Member.{not_in_zero}
use Prim.Native.Nat.{ℕ}
use mathlib.Core.Path.{refl}
use native.Mathlib.Omega.{arith}
use borrow.Author.Rules.{rules}
use Rattle.session.proofs.Session.by_run.Goals as goal

pub loop-waiting-init : goal.loop-waiting-init
loop-waiting-init c = (refl, λ r l q. (λ i. absurd (not_in_zero q (rw (get_or-replicate {A = ℕ} 8 r 0 0 l) at i)), λ (v, b, m). absurd (omega arith)))

pub loop-run-preserved : goal.loop-run-preserved
loop-run-preserved c = (search rules, joined_more c.loop-run.runs c.loop-waiting.runs (InCell c.args.self.now.set c.loop-waiting.waiting) c.loop-run.run _ (omega arith) (λ q. (λ i. i, λ i. i)) c.loop-run.invariant.1)
