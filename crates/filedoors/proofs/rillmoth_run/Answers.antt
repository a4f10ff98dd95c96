-- `rillmoth_run` meets its contract. Assumes nothing.
use Rattle.filedoors.proofs.Flags.{ran_small}
use Rattle.filedoors.proofs.Answers.{runs_by}
use borrow.Author.Tests.{lt-leb, le-leb}
use Rattle.filedoors.specs.Doors as doors
use Rattle.filedoors.proofs.rillmoth_run.Goals as goal

pub returns-then-told-lt-RUN : goal.returns-then-told-lt-RUN
returns-then-told-lt-RUN c = doors.short (lt-leb _ _ c.if-told-lt-RUN.true)

pub of_run-requires : goal.of_run-requires
of_run-requires c = ran_small _ _ _ _ _ _ _ _ _ _ c.run-ran.ensures

pub returns : goal.returns
returns c =
    runs_by c.run-ran.result (le-leb _ _ c.if-told-lt-RUN.false) c.run-ran.ensures c.of_run.ensures c.put.ensures
