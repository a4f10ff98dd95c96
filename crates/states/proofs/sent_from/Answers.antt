-- `states::sent_from` meets its contract: in each word, each state taken out of `left` has led to what is in `out`. Assumes nothing.
use mathlib.Core.Logic.Iff
use Rattle.std.proofs.Common.{ℕ, arith}
use lib.ListN.{get_or-replicate}
use Rattle.states.proofs.Member.{in_lt}
use Rattle.states.proofs.Ends.{not_zero, fewer}
use Rattle.states.proofs.Through.{going_none, going_more, going_all, leads_with, via_both}
use Rattle.states.proofs.sent_from.Goals as goal

pub loop-s-init : goal.loop-s-init
loop-s-init c r l = going_none _ _ (get_or-replicate {A = ℕ} 8 r 0 0 l)

pub put-requires : goal.put-requires
put-requires c = let least = c.in-Some.ensures in in_lt 64 c.in-Some.s c.loop-s.left (omega arith) least.0

pub overflow_sub-left : goal.overflow_sub-left
overflow_sub-left c = let least = c.in-Some.ensures in not_zero _ _ least.0

pub loop-s-smaller : goal.loop-s-smaller
loop-s-smaller c = let least = c.in-Some.ensures in fewer _ _ least.0

pub loop-s-preserved : goal.loop-s-preserved
loop-s-preserved c r l =
    going_more _ _ c.in-Some.s _ c.in-Some.ensures
    (λ t. Iff.trans (c.put.ensures r l t) (leads_with _ _ _ _ _ _ _ t c.byte.ensures)) (c.loop-s.invariant r l)

pub returns : goal.returns
returns c r l t =
    Iff.trans (going_all _ _ c.in_default.ensures (c.loop-s.invariant r l) t)
    (via_both _ _ _ _ _ t)
