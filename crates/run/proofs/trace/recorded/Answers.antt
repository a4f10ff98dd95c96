use Rattle.run.proofs.Lags.{small_lags, past_lags}
use Rattle.run.proofs.Lines.{is_line}
use native.Mathlib.Omega.{arith}
use Rattle.run.proofs.trace.recorded.Goals as goal

pub line-bytes-requires : goal.line-bytes-requires
line-bytes-requires c = (c.args.prepared.now.bounded.1, small_lags _ _ _ _ (omega arith) c.tally-t.ensures.lags)

pub returns : goal.returns
returns c =
    let t = c.tally-t.ensures in
    record {
      line = _;
      put = c.put.ensures;
      of_set = rw c.line-bytes.ensures (is_line _ _ _ _ c.args.prepared.now.bounded.1 _ t);
      past = past_lags _ _ _ _ t.lags;
    }
