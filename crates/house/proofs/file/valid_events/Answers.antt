-- `file::valid_events` meets its contract: the events of the blocks passed are valid. Assumes nothing.
use Rattle.std.proofs.Common.{◌+◌, ap, sym, arith, length, rules}
use Rattle.block.specs.Limits.{event_kind}
use Rattle.house.specs.File.{events_of}
use Rattle.house.proofs.Files.{walk_next, walk_ends, joined_none, joined_short, part_share, part_adds}
use Rattle.house.proofs.Events.{valid_all, valid_known, clean_more, found}
use Rattle.house.proofs.file.valid_events.Goals as goal

pub loop-b-init : goal.loop-b-init
loop-b-init c = (
  0,
  record { sized = search rules; after = search rules; within = omega arith },
  ap length (sym (joined_none event_kind c.args.file.now)),
  λ j l. absurd (omega arith),
)

pub overflow_add-result : goal.overflow_add-result
overflow_add-result c =
    let a = c.args in
    let (k, w, e, g) = c.loop-b.invariant in
    let x = walk_next w c.in-Some.ensures.steps in
    omega (arith, e, x.on.within, part_adds event_kind a.file.now _ _ k x.here c.share-part.ensures, joined_short event_kind a.file.now (k + 1))

pub returns-then-good-part : goal.returns-then-good-part
returns-then-good-part c =
    let a = c.args in
    let (k, w, e, g) = c.loop-b.invariant in
    let x = walk_next w c.in-Some.ensures.steps in
    let known = valid_known a.inputs a.outputs _ _ c.valid-good.ensures in
    found a.inputs a.outputs a.file.now _ k c.loop-b.at (part_share event_kind a.file.now _ _ k x.here c.share-part.ensures) e x.inside g known c.if-good-part.true

pub overflow_add-at : goal.overflow_add-at
overflow_add-at c =
    let a = c.args in
    let (k, w, e, g) = c.loop-b.invariant in
    let x = walk_next w c.in-Some.ensures.steps in
    omega (arith, e, x.on.within, part_adds event_kind a.file.now _ _ k x.here c.share-part.ensures, joined_short event_kind a.file.now (k + 1))

pub loop-b-preserved : goal.loop-b-preserved
loop-b-preserved c =
    let a = c.args in
    let s = a.file.now in
    let (k, w, e, g) = c.loop-b.invariant in
    let x = walk_next w c.in-Some.ensures.steps in
    let p = c.share-part.ensures in
    let v = valid_known a.inputs a.outputs _ _ c.valid-good.ensures in (
      k + 1,
      x.on,
      omega (arith, e, part_adds event_kind s _ _ k x.here p),
      clean_more a.inputs a.outputs s _ k c.loop-b.at (part_share event_kind s _ _ k x.here p) e x.inside _ (omega arith) g
          (λ j m. v.before j (omega (arith, c.if-good-part.false))),
    )

pub returns : goal.returns
returns c =
    let a = c.args in
    let (k, w, e, g) = c.loop-b.invariant in
    valid_all a.inputs a.outputs (events_of a.file.now) c.loop-b.at (rw (walk_ends w c.in-None.ensures.steps.1.0) at e) g
