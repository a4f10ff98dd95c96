-- `states::sent` meets its contract: the union has all of each word. Assumes nothing.
use mathlib.Core.Logic.Iff
use Rattle.states.proofs.Through.{image_all}
use Rattle.states.proofs.sent.Goals as goal

pub returns : goal.returns
returns c r l t =
    Iff.trans (c.sent_from.ensures r l t)
    (image_all _ _ _ _ _ t (λ s i. (c.union_of.ensures s).1 (record { word = r; small = l; here = i })))
