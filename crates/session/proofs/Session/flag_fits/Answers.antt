use Rattle.session.proofs.Clauses.{found_decides, found_not}
use Rattle.session.proofs.Found.{finds_unless_empty}
use mathlib.Core.Bool.{not}
use mathlib.Core.Path.{ap}
use borrow.Author.Rules.{rules}
use Rattle.session.proofs.Session.flag_fits.Goals as goal

pub returns-in-None : goal.returns-in-None
returns-in-None c = rw c.in-None.is (found_decides _ _ (finds_unless_empty _ _ (search rules) c.empty-found.ensures))

pub returns-else-not-found : goal.returns-else-not-found
returns-else-not-found c = rw (c.in-Some.is, c.if-not-found.false) (found_not (finds_unless_empty _ _ (search rules) c.empty-found.ensures) (ap not c.if-not-found.false))
