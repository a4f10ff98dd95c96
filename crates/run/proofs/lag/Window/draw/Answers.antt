use mathlib.Core.Path.{◌≡◌, refl}
use Prim.Native.Nat.{◌+◌, ◌-◌}
use Rattle.run.proofs.Lags.{draws_none, draws_step}
use native.Mathlib.Omega.{arith}
use Rattle.run.proofs.lag.Window.draw.Goals as goal

pub loop-w-init : goal.loop-w-init
loop-w-init c = (record { line = refl; base = refl; count = refl }, draws_none _ _ _ _ _ _ _)

pub loop-w-preserved : goal.loop-w-preserved
loop-w-preserved c =
    let l = c.loop-w in
    let s = l.invariant.0 in
    let e : l.w - 1 + 1 ≡ l.w = omega arith in (
      record { line = s.line; base = s.base; count = s.count },
      draws_step _ _ _ _ _ _ _ l.self.words (l.w - 1) _ _ _ _ (omega arith) (omega arith) (rw s.line) refl refl
          (rw e l.invariant.1) c.drawn-x.ensures,
    )
