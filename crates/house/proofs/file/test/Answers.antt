-- `file::test` meets its contract. The blocks passed are good. Assumes nothing.
use Rattle.std.proofs.Common.{false, ◌≡◌, refl, sym, arith, rules}
use Rattle.std.specs.Prelude.{Ok}
use Rattle.std.proofs.lemmas.Grind.{common_steps}
use Rattle.house.specs.Verdicts.{of_block, is_passed}
use Rattle.house.proofs.Files.{walk_next, walk_ends, before_next}
use Rattle.house.proofs.Verdicts.{blocks_none, blocks_good, blocks_bad, seen}
use Rattle.house.proofs.file.test.Goals as goal

pub loop-k-init : goal.loop-k-init
loop-k-init c =
    let s = c.args.file.now in
    let none : c.into_iter-k-iterator.result.count ≡ 0 = search rules in
    rw none (record { sized = search rules; after = search rules; within = omega arith }, blocks_none s, refl)

pub returns-in_err-map_err : goal.returns-in_err-map_err
returns-in_err-map_err c =
    let s = c.args.file.now in
    let (w, t, b) = c.loop-k.invariant in
    let (step, k, n, small) = c.in-Some.ensures.steps in
    let e : c.from_residual.result ≡ of_block c.test.result c.in-Some.k = grind (arith, common_steps) in
    let f : is_passed c.from_residual.result ≡ false = grind (arith, common_steps) in
    let x = walk_next w step in
    blocks_bad s _ _ _ x.inside t (seen s _ _ _ _ k x.here b c.test.ensures e) f

pub loop-k-preserved : goal.loop-k-preserved
loop-k-preserved c =
    let s = c.args.file.now in
    let (w, t, b) = c.loop-k.invariant in
    let (step, k, n, small) = c.in-Some.ensures.steps in
    let e : Ok tt ≡ of_block c.test.result c.in-Some.k = grind (arith, common_steps) in
    let x = walk_next w step in
    rw n (
      x.on,
      blocks_good s _ (Ok tt) t (seen s _ _ _ _ k x.here b c.test.ensures e) refl,
      before_next s _ _ x.here,
    )

pub returns : goal.returns
returns c =
    let (w, t, b) = c.loop-k.invariant in
    let (step, n) = c.in-None.ensures.steps in
    sym (rw (walk_ends w step.1.0) at t)
