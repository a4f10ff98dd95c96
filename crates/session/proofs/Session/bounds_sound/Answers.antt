use Rattle.table.proofs.Laws.{bounds_pass}
use Rattle.session.proofs.Clauses.{passing}
use Rattle.session.proofs.Session.bounds_sound.Goals as goal

pub returns : goal.returns
returns c = rw (c.is_ok.ensures.value, c.bounds.ensures, c.from.ensures, c.from-2.ensures) (passing (bounds_pass _ _))
