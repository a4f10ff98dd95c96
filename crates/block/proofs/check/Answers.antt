-- `block::check` meets its contract. The sum is that of the bytes passed, each at most 510 × 255. Assumes nothing.
use Rattle.std.proofs.Common.{ℕ, ◌+◌, ◌*◌, ◌%◌, ◌≤◌, sym, ap, ◌∙◌, arith, length, rules}
use Rattle.std.proofs.Math.ListN.{length-take}
use Rattle.std.proofs.Math.Nat.{mul-le-mul}
use Rattle.block.specs.Limits.{check_at, modulus}
use Rattle.block.proofs.Blocks.{weighed_none, weighed_more, weighed_all}
use Rattle.block.proofs.check.Goals as goal

pub loop-i-init : goal.loop-i-init
loop-i-init c = (search rules, sym (weighed_none c.args.b.now))

small : (c : goal.After-from) → (c.loop-i.i + 1) * c.from.result ≤ 130050
small c =
    let n = ap length c.between-x-items.ensures ∙ length-take check_at c.args.b.now in
    mul-le-mul {n₂ = 510} {m₂ = 255} (omega (arith, n)) (omega (arith, c.type_inv.x-items c.loop-i.i))

pub overflow_mul-sum : goal.overflow_mul-sum
overflow_mul-sum c = omega (arith, small c)

pub overflow_add-sum-in-loop-i : goal.overflow_add-sum-in-loop-i
overflow_add-sum-in-loop-i c =
    let n = ap length c.between-x-items.ensures ∙ length-take check_at c.args.b.now in
    omega (arith, small c, n)

pub loop-i-preserved : goal.loop-i-preserved
loop-i-preserved c = (
  omega (arith, small c),
  omega (arith, weighed_more c.args.b.now _ c.loop-i.i c.from.result c.between-x-items.ensures c.loop-i-test.true c.from.ensures),
)

pub returns : goal.returns
returns c =
    let n = ap length c.between-x-items.ensures ∙ length-take check_at c.args.b.now in
    ap (λ (x : ℕ). x % modulus) (c.loop-i.invariant.1 ∙ weighed_all c.args.b.now check_at c.loop-i.i (omega (arith, n)))
