use Prim.Native.Nat.{◌-◌, ◌*◌, ◌≤◌, ◌<◌}
use mathlib.Core.Path.{refl}
use mathlib.Core.Logic.Iff
use native.Mathlib.Nat.{mul-le-mul}
use native.Mathlib.Omega.{arith}
use lib.Bits.{and_le_r}
use Rattle.states.proofs.Member.{in_lt}
use Rattle.states.proofs.Ends.{not_zero, fewer}
use Rattle.states.proofs.Through.{going_none, going_all, via_image}
use Rattle.run.proofs.Columns.{led_row, led_byte, led_within, led_more}
use Rattle.run.proofs.column.Columns.led.Goals as goal

pub loop-s-init : goal.loop-s-init
loop-s-init c = (omega arith, going_none _ _ refl, λ q i. i)

pub overflow_sub-left : goal.overflow_sub-left
overflow_sub-left c = let least = c.in-Some.ensures in not_zero _ _ least.0

pub overflow_mul-t : goal.overflow_mul-t
overflow_mul-t c =
    let least = c.in-Some.ensures in
    let s : c.in-Some.s < 64 = in_lt 64 _ c.loop-s.left c.loop-s.invariant.0 least.0 in
    let m : c.in-Some.s * c.args.self.now.width ≤ 63 * 32 = mul-le-mul {n₂ = 63} {m₂ = 32} (omega arith) c.args.self.now.narrow in omega arith

pub overflow_add-t : goal.overflow_add-t
overflow_add-t c =
    let least = c.in-Some.ensures in
    let s : c.in-Some.s < 64 = in_lt 64 _ c.loop-s.left c.loop-s.invariant.0 least.0 in
    let m : c.in-Some.s * c.args.self.now.width ≤ 63 * 32 = mul-le-mul {n₂ = 63} {m₂ = 32} (omega arith) c.args.self.now.narrow in omega arith

pub bounds-self-s : goal.bounds-self-s
bounds-self-s c = led_row _ _ _ _ _ _ c.in-Some.ensures c.loop-s.invariant.2 c.requires.by_index

pub overflow_cast-out : goal.overflow_cast-out
overflow_cast-out c =
    let b = led_byte _ _ _ _ _ _ c.in-Some.ensures c.loop-s.invariant.2 c.requires.by_index in
    omega arith

pub overflow_shl-out : goal.overflow_shl-out
overflow_shl-out c = led_byte _ _ _ _ _ _ c.in-Some.ensures c.loop-s.invariant.2 c.requires.by_index

pub loop-s-smaller : goal.loop-s-smaller
loop-s-smaller c = let least = c.in-Some.ensures in fewer _ _ least.0

pub loop-s-preserved : goal.loop-s-preserved
loop-s-preserved c =
    let left = c.loop-s.left in (
      omega (arith, and_le_r left (left - 1), c.loop-s.invariant.0),
      led_more _ _ _ _ _ _ c.in-Some.ensures c.loop-s.invariant.2 c.requires.by_index _
          c.loop-s.invariant.1,
      led_within _ _ _ _ _ _ c.in-Some.ensures c.loop-s.invariant.2 c.requires.by_index,
    )

pub returns : goal.returns
returns c = λ t. Iff.trans (going_all _ _ c.in_default.ensures c.loop-s.invariant.1 t) (via_image _ _ _ _ t)
