use Prim.Native.Nat.{◌+◌}
use Rattle.std.proofs.lemmas.List.Edits.{length-between, get_or-between}
use Rattle.run.proofs.Lags.{tallied}
use native.Mathlib.Omega.{arith}
use Rattle.run.proofs.lag.Window.tally.Goals as goal

pub returns : goal.returns
returns c =
    let w = c.args.self.now in
    let m = w.count + c.args.prepared.now.losses in
    tallied w.words _ w.base m (λ j l. get_or-between w.words w.base (w.base + w.count + c.args.prepared.now.losses) j 0 (omega arith))
    (omega (arith, length-between w.words w.base (w.base + w.count + c.args.prepared.now.losses) (omega arith))) _ _ c.states_of.ensures c.lags_of.ensures
