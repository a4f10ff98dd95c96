use mathlib.Core.Path.{◌≡◌, refl}
use Prim.Native.Nat.{◌+◌, ◌-◌}
use native.Mathlib.Omega.{arith}
use Rattle.run.proofs.Running.{following_none, following_more, run_end, run_flagged}
use Rattle.run.proofs.trace.followed.Goals as goal

pub loop-k-init : goal.loop-k-init
loop-k-init c = following_none _ _ _ _ _ _ _ _ c.first-window.ensures c.requires.bounds.1

pub loop-k-preserved : goal.loop-k-preserved
loop-k-preserved c =
    let l = c.loop-k in
    following_more _ _ _ _ _ c.args.trace.now _ _ l.k _ _ c.loop-k-test.true (omega arith) l.invariant c.requires.bounds.0 _ _ _
    (rw c.of.ensures.0 at c.step.ensures) c.in-Some.ensures

pub returns-in_default : goal.returns-in_default
returns-in_default c = λ s passes.
    (let l = c.loop-k in
    let e : l.k + 1 - 1 ≡ l.k = omega arith in
    let h = following_more _ _ _ _ _ c.args.trace.now _ _ l.k _ _ c.loop-k-test.true (omega arith) l.invariant c.requires.bounds.0 _ _ _
    (rw c.of.ensures.0 at c.step.ensures) c.in_default.ensures in
    rw e at (run_flagged _ _ _ _ _ c.args.trace.now _ _ (l.k + 1) _ _ _ refl h c.emptied.ensures s passes))

pub returns : goal.returns
returns c = λ s passes.
    (let l = c.loop-k in
    run_end _ _ _ _ _ c.args.trace.now _ _ l.k _ _ (omega arith) (omega arith) l.invariant s passes)
