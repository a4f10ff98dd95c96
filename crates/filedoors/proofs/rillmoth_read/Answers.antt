-- `rillmoth_read` meets its contract. Assumes nothing.
use Rattle.filedoors.proofs.Answers.{reads_by}
use borrow.Author.Tests.{lt-leb, le-leb}
use Rattle.filedoors.specs.Doors as doors
use Rattle.filedoors.proofs.rillmoth_read.Goals as goal

pub returns-then-told-lt-READ : goal.returns-then-told-lt-READ
returns-then-told-lt-READ c = doors.short (lt-leb _ _ c.if-told-lt-READ.true)

pub returns : goal.returns
returns c =
    reads_by c.read-reading.result (le-leb _ _ c.if-told-lt-READ.false) c.read-reading.ensures c.of_read.ensures c.put.ensures
