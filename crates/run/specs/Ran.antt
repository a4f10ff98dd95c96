-- How a run ends: with the place of the first flagged event, if any, or refused. Assumes nothing.
use Rattle.std.specs.Prelude.{ℕ, Option, None, Result, Ok, Err}
use Rattle.table.specs.declared.answer.Refusal.{Refusal}

abbrev pub Ran : Type 0
Ran = Result (Option ℕ) Refusal

-- A refused run tells no flag.
abbrev pub flag_of : Ran → Option ℕ
flag_of (Ok f) = f
flag_of (Err r) = None
