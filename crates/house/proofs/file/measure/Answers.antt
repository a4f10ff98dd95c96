-- `file::measure` meets its contract: the sum is the length of what the blocks passed hold. Assumes nothing.
use Rattle.std.proofs.Common.{◌+◌, ap, sym, arith, length, rules}
use Rattle.block.specs.Block.{kind_number}
use Rattle.house.proofs.Files.{walk_next, walk_ends, joined_none, joined_short, part_adds}
use Rattle.house.proofs.file.measure.Goals as goal

pub loop-b-init : goal.loop-b-init
loop-b-init c = (0, record { sized = search rules; after = search rules; within = omega arith }, ap length (sym (joined_none (kind_number c.args.q) c.args.file.now)))

pub overflow_add-sum : goal.overflow_add-sum
overflow_add-sum c =
    let a = c.args in
    let (k, w, e) = c.loop-b.invariant in
    let x = walk_next w c.in-Some.ensures.steps in
    omega (arith, x.on.within, part_adds (kind_number a.q) a.file.now _ _ k x.here c.share.ensures, joined_short (kind_number a.q) a.file.now (k + 1))

pub loop-b-preserved : goal.loop-b-preserved
loop-b-preserved c =
    let a = c.args in
    let (k, w, e) = c.loop-b.invariant in
    let x = walk_next w c.in-Some.ensures.steps in
    (k + 1, x.on, omega (arith, e, part_adds (kind_number a.q) a.file.now _ _ k x.here c.share.ensures))

pub returns : goal.returns
returns c = let (k, w, e) = c.loop-b.invariant in rw (walk_ends w c.in-None.ensures.steps.1.0) at e
