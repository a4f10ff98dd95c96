-- `rillmoth_standard` meets its contract. Assumes nothing.
use borrow.Author.Tests.{lt-leb, le-leb}
use Rattle.standarddoors.specs.Results as doors
use Rattle.standarddoors.proofs.Answers.{gives_by}
use Rattle.standarddoors.proofs.rillmoth_standard.Goals as goal

pub returns-then-rows-lt-LENGTH : goal.returns-then-rows-lt-LENGTH
returns-then-rows-lt-LENGTH c = doors.short (lt-leb _ _ c.if-rows-lt-LENGTH.true)

pub returns : goal.returns
returns c =
    gives_by (le-leb _ _ c.if-rows-lt-LENGTH.false) c.rows.ensures c.put.ensures
