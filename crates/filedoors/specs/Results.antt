-- The results that a function leaves in the words lent for them: a refusal's number and places, and then what else it answers.
-- Assumes nothing.
use Rattle.std.specs.Prelude.{List, [], ◌∷◌, ◌++◌, ℕ}
use Rattle.figures.specs.Figures.{figures, flag_word}
use Rattle.table.specs.Refusals as table
use Rattle.run.specs.Ran.{Ran, flag_of}
use Rattle.house.specs.Refusals.{told_of, results}
use Rattle.house.specs.declared.answer.Source.{Source}
use Rattle.house.specs.File.{source_byte}
use Rattle.house.specs.declared.answer.Contents.{Contents}
use Rattle.house.specs.Verdict.{Reading}
use Rattle.lister.specs.declared.Summary.{Summary}

-- A run: words 0 to 2 are the number and both places, word 3 is the flag, 0 for none, place + 1 otherwise.
abbrev pub run_size : ℕ
run_size = 4

abbrev pub run_results : Ran → List ℕ
run_results r = figures (table.told_by table.told r) ++ (flag_word (flag_of r) ∷ [])

-- Source 0 means rows follow; 1 means the standard box.
abbrev pub source_number : Source → ℕ
source_number = source_byte

-- A read: words 0 to 2 are the number and both places, 3 to 10 states, inputs, outputs, B, c, source, bytes of rows, events.
abbrev pub read_size : ℕ
read_size = 11

abbrev pub contents : Contents → List ℕ
contents c = c.states ∷ c.inputs ∷ c.outputs ∷ c.waiting ∷ c.losses ∷ source_number c.source ∷ c.rows ∷ c.events ∷ []

-- A refused read's are 0.
abbrev pub read_results : Reading → List ℕ
read_results r = figures (told_of r) ++ contents (results r)

-- A listing: words 0 to 2 are the number and both places, word 3 is how many bytes the text has, word 4 how many events the file has, word
-- 5 the flag as in a run. A refused file's words 4 and 5 are 0.
abbrev pub listing_size : ℕ
listing_size = 6

abbrev pub listing_results : Summary → List ℕ
listing_results r = figures r.told ++ (r.bytes ∷ r.events ∷ flag_word r.flag ∷ [])
