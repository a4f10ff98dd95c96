-- `whole::text` meets its contract. Assumes nothing.
use Prim.Native.Nat.{ℕ}
use lib.ListN.{length-replicate}
use borrow.Author.Tests.{lt-leb, le-leb}
use Rattle.lister.specs.Putting.{short}
use Rattle.lister.proofs.Putting.{texts_by}
use Rattle.lister.proofs.whole.text.Goals as goal

pub returns-then-out-lt-LISTING_ROOM : goal.returns-then-out-lt-LISTING_ROOM
returns-then-out-lt-LISTING_ROOM c = rw c.nothing.ensures (short (lt-leb _ _ c.if-out-lt-LISTING_ROOM.true))

pub returns : goal.returns
returns c =
    texts_by (length-replicate {A = ℕ} 4096 0) (length-replicate {A = ℕ} 49152 0) c.judge-judged.ensures
    (le-leb _ _ c.if-out-lt-LISTING_ROOM.false) c.put_all-bytes.ensures c.refusal.ensures c.count.ensures c.flag.ensures
