-- `rillmoth_write` meets its contract. Assumes nothing.
use borrow.Author.Rules.{rules}
use Rattle.writerdoors.proofs.Answers.{made_by}
use Rattle.writerdoors.proofs.rillmoth_write.Goals as goal

pub returns : goal.returns
returns c = made_by (λ w d r. search rules) c.answered.ensures
