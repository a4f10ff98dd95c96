use Prim.Native.Nat.{ℕ}
use lib.ListN.{length-replicate}
use borrow.Author.Rules.{rules}
use Rattle.lister.proofs.Judging.{unread, read_then}
use Rattle.lister.proofs.judge.judge.Goals as goal

pub returns-in_err-c : goal.returns-in_err-c
returns-in_err-c c = search (rules, unread {o = c.args.results.now} (length-replicate {A = ℕ} 2048 0) c.read.ensures c.in_err-c.was)

pub returns : goal.returns
returns c = read_then (length-replicate {A = ℕ} 2048 0) c.read.ensures c.in_ok-c.was c.follow_source.ensures
