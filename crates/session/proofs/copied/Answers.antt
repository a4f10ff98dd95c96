use Rattle.session.specs.Open.{zeros}
use Rattle.session.proofs.Padded.{length_zeros, copy_more, copy_least}
use Rattle.std.proofs.Common.{◌≡◌, refl, ◌∙◌, ◌<◌, length, arith}
use Rattle.session.proofs.copied.Goals as goal

pub loop-i-init : goal.loop-i-init
unfolding zeros
loop-i-init c = refl

pub loop-i-preserved : goal.loop-i-preserved
loop-i-preserved c =
    let l = c.loop-i in
    let short : l.i < length c.args.rows.now = omega (arith, c.min-i-end.ensures) in
    let room : l.i < length (zeros 2048) = rw length_zeros (omega (arith, c.min-i-end.ensures)) in
    rw l.invariant (copy_more (zeros 2048) c.args.rows.now l.i room short)

pub returns : goal.returns
returns c =
    let all : c.loop-i.i ≡ c.min-i-end.result = omega arith in
    c.loop-i.invariant ∙ copy_least 2048 c.loop-i.i c.args.rows.now (all ∙ c.min-i-end.ensures)
