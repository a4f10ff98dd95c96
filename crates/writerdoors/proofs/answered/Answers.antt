-- `answered` meets its contract. Assumes nothing.
use mathlib.Core.Path.{refl}
use borrow.Author.Tests.{lt-leb, le-leb}
use Rattle.writerdoors.specs.Results as doors
use Rattle.writerdoors.proofs.Answers.{writes_by}
use Rattle.writerdoors.proofs.answered.Goals as goal

pub returns-then-told-lt-WRITE : goal.returns-then-told-lt-WRITE
returns-then-told-lt-WRITE g c = doors.short (lt-leb _ _ c.if-told-lt-WRITE.true)

pub returns : goal.returns
returns g c =
    writes_by _ c.work.result (le-leb _ _ c.if-told-lt-WRITE.false)
    (record { shown = _; shows = refl; left = _; met = c.work.ensures; leaves = refl }) c.of_write-results.ensures c.put.ensures
