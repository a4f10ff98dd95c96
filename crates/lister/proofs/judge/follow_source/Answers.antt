use mathlib.Core.Path.{◌∙◌}
use Rattle.lister.proofs.Judging.{followed_by}
use Rattle.lister.proofs.judge.follow_source.Goals as goal

pub returns : goal.returns
returns c = followed_by (c.front.ensures ∙ c.settle-n.ensures) c.follow.ensures
