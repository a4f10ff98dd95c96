-- `table::entries` meets its contract. While both loops run, no entry passed is bad: their numbers are those below row * width + column.
-- Assumes nothing.
use Rattle.std.proofs.Common.{◌+◌, ◌<◌, sym, ◌∙◌, add_assoc, arith}
use Rattle.table.proofs.First.{none_more}
use Rattle.table.proofs.Reading.{first_bad, bad_seen}
use Rattle.table.proofs.entries.Goals as goal

pub loop-column-preserved : goal.loop-column-preserved
loop-column-preserved c =
    let inside : c.loop-column.column < c.args.inputs + c.args.outputs = omega arith in
    (c.loop-column.invariant.0, rw (← add_assoc) (none_more _ _ c.loop-column.invariant.1 (bad_seen _ _ _ _ _ _ c.next.result inside c.next.ensures c.leads_out.ensures ∙ c.if-leads_out.false)))

pub returns-then-leads_out : goal.returns-then-leads_out
returns-then-leads_out c =
    let inside : c.loop-column.column < c.args.inputs + c.args.outputs = omega arith in
    rw (c.from-then-leads_out.ensures, c.from-then-leads_out-2.ensures) (sym (first_bad _ _ _ c.rows-test.true inside c.loop-column.invariant.1 (bad_seen _ _ _ _ _ _ c.next.result inside c.next.ensures c.leads_out.ensures ∙ c.if-leads_out.true)))
