use Rattle.run.proofs.Lags.{followed_part, went_all}
use native.Mathlib.Omega.{arith}
use Rattle.run.proofs.lag.Window.sent.Goals as goal

pub returns-clause-words : goal.returns-clause-words
returns-clause-words c =
    went_all _ _ _ _ _ _ _ _ _ _ _ c.requires.past_lags
    (followed_part _ _ _ _ _ _ _ _ (omega arith) (omega (arith, c.requires.past_lags.most)) c.follow.auto.words c.follow.ensures)
    (rw c.min.ensures at c.draw.ensures.words)
