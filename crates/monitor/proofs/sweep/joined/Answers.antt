use lib.ListN.{length}
use mathlib.Core.Path.{◌≡◌}
use Rattle.monitor.proofs.Words.{joining_first, joining_more, joined_to, handed, none_handed}
use native.Mathlib.Omega.{arith}
use borrow.Author.Rules.{rules}
use Rattle.monitor.proofs.sweep.joined.Goals as goal
use Rattle.monitor.proofs.sweep.joined.Goals.{then-r-c, else-r-c}

pub loop-r-init : goal.loop-r-init
loop-r-init c =
    let len : length c.args.row ≡ 8 = search rules in
    joining_first _ _ _ _ len

pub loop-r-preserved : goal.loop-r-preserved
loop-r-preserved c =
    joining_more _ _ _ _ _ _ _ (omega arith) (omega arith) c.loop-r.invariant
    (elim c.if-r-c.branch [
      | then-r-c w ↦ λ s. rw w.x-is (handed _ _ _ w.if-r-c.true s)
      | else-r-c w ↦ λ s. rw w.x-is (none_handed _ _ _ w.if-r-c.false s)
    ])

pub returns : goal.returns
returns c = joined_to _ _ _ _ _ _ c.loop-r-test.false c.loop-r.invariant
