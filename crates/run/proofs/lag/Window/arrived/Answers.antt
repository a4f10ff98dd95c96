use Rattle.run.proofs.Lags.{came_in}
use Rattle.run.proofs.lag.Window.arrived.Goals as goal

pub returns-clause-came : goal.returns-clause-came
returns-clause-came c = came_in _ _ _ _ _ _ _ _ _ _ _ c.based.ensures.0 c.drawn.ensures
