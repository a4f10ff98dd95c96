use mathlib.Core.Path.{sym, ap, ◌∙◌}
use lib.ListN.{take}
use Rattle.house.specs.declared.answer.Source.{Source}
use Rattle.lister.specs.Judging.{rows_meant}
use Rattle.lister.proofs.Judging.{settled}
use Rattle.lister.proofs.judge.settle.Goals as goal

pub returns-in-Rows : goal.returns-in-Rows
returns-in-Rows c = sym (ap (λ (x : Source). rows_meant x (take c.args.n c.args.rows.now)) c.in-Rows.is)

pub returns-in-Standard : goal.returns-in-Standard
returns-in-Standard c =
    settled c.args.rows.now c.rows.result _ c.requires c.rows.ensures c.put.ensures
    ∙ sym (ap (λ (x : Source). rows_meant x (take c.args.n c.args.rows.now)) c.in-Standard.is)
