use mathlib.Core.Path.{◌≡◌}
use Prim.Native.Nat.{◌+◌, ◌<◌, min}
use Rattle.std.proofs.lemmas.List.Edits.{length-between, get_or-between}
use Rattle.run.proofs.Lags.{within_none, within_more}
use native.Mathlib.Omega.{arith}
use Rattle.run.proofs.lag.Window.within.Goals as goal

pub loop-lost-init : goal.loop-lost-init
loop-lost-init c = within_none _ _ _

pub loop-lost-preserved : goal.loop-lost-preserved
loop-lost-preserved c =
    let w = c.args.self.now in
    let at = c.args.at in
    let small : at + c.loop-lost.lost < at + 8 = omega (arith, length-between w.words at (at + 8) (omega arith)) in
    let e = get_or-between w.words at (at + 8) c.loop-lost.lost 0 small in
    within_more _ _ _ _ _ _ c.loop-lost.invariant (rw e at c.kept-all.ensures)

pub returns : goal.returns
returns c =
    let w = c.args.self.now in
    let at = c.args.at in
    let e : min c.loop-lost.lost c.args.c ≡ c.args.c = omega (arith, length-between w.words at (at + 8) (omega arith)) in
    λ s. rw e at (c.loop-lost.invariant s)
