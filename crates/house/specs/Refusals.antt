-- Document 01, "Numbers for what is turned away": the number of each refusal of a file and the places told with it, and the
-- results that a refused file leaves at 0. The numbers 20 to 23 of document 02, in place of 13, are in the crate `flaw`. Assumes nothing.
use Rattle.std.specs.Prelude.{Ok, Err}
use Rattle.table.specs.Refusals as table
use Rattle.table.specs.declared.answer.Told.{Told}
use Rattle.flaw.specs.Flaws as flaw
use Rattle.house.specs.declared.answer.Contents.{Contents}
use Rattle.house.specs.Verdict.{Reading}
use Rattle.house.specs.declared.answer.Source.TheVariants.{Rows}
use Rattle.house.specs.declared.answer.Refusal.{Refusal}
use Rattle.house.specs.declared.answer.Refusal.TheVariants.{Length, Block, Standard, Content}

-- Row by row of the document's table.
unfoldable pub told : Refusal → Told
told (Length length) = table.told_at 11 length
told (Block f block) = flaw.told f block
told Standard = table.told_at 14 0
told (Content refusal) = table.told refusal

-- A good file has no number.
abbrev pub told_of : Reading → Told
told_of reading = table.told_by told reading

-- A refused read's other results are 0.
abbrev pub results : Reading → Contents
results (Ok c) = c
results (Err r) =
    record { states = 0; inputs = 0; outputs = 0; waiting = 0; losses = 0; source = Rows; rows = 0; events = 0 }
