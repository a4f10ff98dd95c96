use Rattle.lines.proofs.Building.{adds_then}
use borrow.Author.Rules.{rules}
use borrow.Author.Tests.{eq-eqb, ne_eqb}
use Rattle.lines.proofs.push_pair.Goals as goal

pub returns-in-0 : goal.returns-in-0
returns-in-0 c = rw (eq-eqb _ 0 c.in-0.is) (adds_then c.push.ensures c.push-in-0.ensures)

pub returns-in_default : goal.returns-in_default
returns-in_default c =
    let least = rw c.from.ensures at c.push_decimal.ensures in
    let most = rw c.from-in_default.ensures at c.push_decimal-in_default.ensures in
    rw (ne_eqb c.args.states 0 (search rules))
    (adds_then c.push.ensures (adds_then least (adds_then c.push-in_default.ensures most)))
