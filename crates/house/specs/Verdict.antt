-- How a test of a file ends, and what reading one answers. Assumes nothing.
use Rattle.std.specs.Prelude.{Result}
use Rattle.house.specs.declared.answer.Contents.{Contents}
use Rattle.house.specs.declared.answer.Refusal.{Refusal}

-- It passes, or it refuses.
abbrev pub Verdict : Type 0
Verdict = Result (Unit {0}) Refusal

-- What the file holds, or why it is turned away.
abbrev pub Reading : Type 0
Reading = Result Contents Refusal
