use Rattle.run.proofs.Lags.{kept_below, kept_past}
use Rattle.run.proofs.lag.kept.Goals as goal

pub returns-then-lost-c : goal.returns-then-lost-c
returns-then-lost-c c = kept_below _ _ _ c.if-lost-c.true

pub returns-else-lost-c : goal.returns-else-lost-c
returns-else-lost-c c = kept_past _ _ _ c.if-lost-c.false
