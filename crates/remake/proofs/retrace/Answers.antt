-- `retrace` meets its contract. Assumes nothing.
use Prim.Native.Nat.{ℕ}
use borrow.Author.Rules.{rules}
use lib.ListN.{length-replicate, replicate}
use Rattle.remake.proofs.Remaking.{unmade, judged, retraces}
use Rattle.house.specs.File.{contents_of}
use Rattle.remake.proofs.retrace.Goals as goal

pub returns-in_err-c : goal.returns-in_err-c
returns-in_err-c c = search (rules, unmade _ c.args.file.now _ (contents_of c.args.file.now).waiting (contents_of c.args.file.now).losses c.args.trace.now c.args.out.now _ _ c.judge-reading.ensures c.in_err-c.was)

pub returns : goal.returns
returns c =
    let r = c.rules.ensures in
    let written = rw (r.counts.0, r.counts.1, r.counts.2, r.bounds.0, r.bounds.1, r.rows_value) at c.write.ensures in
    retraces _ _ (replicate {A = ℕ} 4096 0) _ _ _ _ _ _ _ _ _ c.front.ensures (length-replicate {A = ℕ} 2048 0) (length-replicate {A = ℕ} 4096 0)
    (judged _ _ (replicate {A = ℕ} 4096 0) _ _ (length-replicate {A = ℕ} 2048 0) (length-replicate {A = ℕ} 4096 0) c.judge-reading.ensures c.hand.ensures.rows_after) c.in_ok-c.was written
