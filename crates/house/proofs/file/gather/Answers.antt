-- `file::gather` meets its contract: what the blocks passed hold stands at the start. Assumes nothing.
use Rattle.std.proofs.Common.{◌+◌, ap, refl, sym, ◌∙◌, arith, length, rules}
use Rattle.lent.proofs.Laws.{put_fits, put_short}
use Rattle.block.specs.Block.{kind_number}
use Rattle.house.specs.File.{blocks, joined}
use Rattle.house.proofs.Files.{walk_next, walk_ends, joined_none, part_adds, part_fits, part_put}
use Rattle.house.proofs.file.gather.Goals as goal

pub returns-then-dst-measure : goal.returns-then-dst-measure
returns-then-dst-measure c =
    let a = c.args in
    sym (put_short a.dst.now (joined (kind_number a.q) a.file.now (blocks a.file.now)) (omega arith))

pub loop-b-init : goal.loop-b-init
loop-b-init c =
    let e = joined_none (kind_number c.args.q) c.args.file.now in
    (0, record { sized = search rules; after = search rules; within = omega arith }, ap length (sym e), rw e, refl)

pub overflow_add-at : goal.overflow_add-at
overflow_add-at c =
    let a = c.args in
    let (k, w, e, f, g) = c.loop-b.invariant in
    let x = walk_next w c.in-Some.ensures.steps in
    omega (arith, e, c.measure.ensures, c.if-dst-measure.false, part_fits (kind_number a.q) a.file.now _ _ k x.here c.share-part.ensures x.inside)

pub loop-b-preserved : goal.loop-b-preserved
loop-b-preserved c =
    let a = c.args in
    let (k, w, e, f, g) = c.loop-b.invariant in
    let x = walk_next w c.in-Some.ensures.steps in
    let p = c.share-part.ensures in
    let fits = part_fits (kind_number a.q) a.file.now _ _ k x.here p x.inside in (
      k + 1,
      x.on,
      omega (arith, e, part_adds (kind_number a.q) a.file.now _ _ k x.here p),
      part_put (kind_number a.q) a.file.now _ _ k x.here p a.dst.now c.loop-b.dst _ c.loop-b.at e f (omega (arith, e, fits, c.measure.ensures, c.if-dst-measure.false)) c.put.ensures,
      omega (arith, g),
    )

pub returns : goal.returns
returns c =
    let a = c.args in
    let all = joined (kind_number a.q) a.file.now (blocks a.file.now) in
    let (k, w, e, f, g) = c.loop-b.invariant in
    (rw (walk_ends w c.in-None.ensures.steps.1.0) at f) ∙ sym (put_fits a.dst.now all (omega (arith, c.measure.ensures, c.if-dst-measure.false)))
