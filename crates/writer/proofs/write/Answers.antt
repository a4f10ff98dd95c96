-- `writer::write` meets its contract: contents that pass fit their bytes. Assumes nothing.
use Rattle.house.specs.Reading.{given}
use borrow.Author.Rules.{rules}
use Rattle.writer.proofs.Placing.{held_refuses, passes}
use Rattle.writer.proofs.write.Goals as goal

pub overflow_cast-contents : goal.overflow_cast-contents
overflow_cast-contents c = (passes _ _ _ _ _ _ _ _ _ c.test.ensures c.in_ok-test.was).states

pub overflow_cast-contents-2 : goal.overflow_cast-contents-2
overflow_cast-contents-2 c = (passes _ _ _ _ _ _ _ _ _ c.test.ensures c.in_ok-test.was).inputs

pub overflow_cast-contents-3 : goal.overflow_cast-contents-3
overflow_cast-contents-3 c = (passes _ _ _ _ _ _ _ _ _ c.test.ensures c.in_ok-test.was).outputs

pub overflow_cast-contents-4 : goal.overflow_cast-contents-4
overflow_cast-contents-4 c = (passes _ _ _ _ _ _ _ _ _ c.test.ensures c.in_ok-test.was).waiting

pub overflow_cast-contents-5 : goal.overflow_cast-contents-5
overflow_cast-contents-5 c = (passes _ _ _ _ _ _ _ _ _ c.test.ensures c.in_ok-test.was).losses

pub place-requires-clause-good_contents : goal.place-requires-clause-good_contents
place-requires-clause-good_contents c = (passes _ _ _ _ _ _ _ _ _ c.test.ensures c.in_ok-test.was).good

pub returns-in_err-test : goal.returns-in_err-test
returns-in_err-test c =
    let a = c.args in
    let r = a.rules.now in
    search (
      rules,
      held_refuses (given a.source r.states r.inputs r.outputs r.waiting r.losses r.rows.now a.trace.now) r.rows.now a.trace.now a.out.now
          _ _ c.test.ensures c.in_err-test.was,
    )
