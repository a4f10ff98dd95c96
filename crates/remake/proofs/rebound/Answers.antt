-- `rebound` meets its contract. Assumes nothing.
use Prim.Native.Nat.{ℕ}
use borrow.Author.Rules.{rules}
use lib.ListN.{length-replicate}
use Rattle.remake.proofs.Remaking.{unmade, rebinds}
use Rattle.house.specs.File.{events_of}
use Rattle.remake.proofs.rebound.Goals as goal

pub returns-in_err-c : goal.returns-in_err-c
returns-in_err-c c = search (rules, unmade _ c.args.file.now _ c.args.waiting c.args.losses (events_of c.args.file.now) c.args.out.now _ _ c.unpack.ensures.reading c.in_err-c.was)

pub returns : goal.returns
returns c =
    let r = c.rules.ensures in
    let written = rw (r.counts.0, r.counts.1, r.counts.2, r.rows_value) at c.write.ensures in
    rebinds _ _ _ _ _ _ _ _ _ _ _ _ c.front.ensures (length-replicate {A = ℕ} 7680 0) (length-replicate {A = ℕ} 7680 0)
    c.unpack.ensures c.in_ok-c.was _ _ c.front-2.ensures written
