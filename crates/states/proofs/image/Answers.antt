-- `states::image` meets its contract: each state taken out of `left` has led to what is in `out`. Assumes nothing.
use mathlib.Core.Logic.Iff
use Rattle.states.proofs.Member.{in_or_with}
use Rattle.states.proofs.Ends.{not_zero, fewer}
use Rattle.states.proofs.Through.{going_more, going_all, leads_by, via_image}
use Rattle.states.proofs.image.Goals as goal

pub overflow_sub-left : goal.overflow_sub-left
overflow_sub-left c = let least = c.in-Some.ensures in not_zero _ _ least.0

pub loop-s-smaller : goal.loop-s-smaller
loop-s-smaller c = let least = c.in-Some.ensures in fewer _ _ least.0

pub loop-s-preserved : goal.loop-s-preserved
loop-s-preserved c =
    going_more _ _ c.in-Some.s _ c.in-Some.ensures
    (in_or_with _ _ _ (λ q. Iff.trans (c.only-out.ensures q) (leads_by _ _ _ c.byte.ensures q))) c.loop-s.invariant

pub returns : goal.returns
returns c t = Iff.trans (going_all _ _ c.in_default.ensures c.loop-s.invariant t) (via_image _ _ _ _ t)
