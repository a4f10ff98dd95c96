-- What is to be said of a file: how many events it has and the flag, if any, or why it is refused. Assumes nothing.
use Rattle.std.specs.Prelude.{ℕ, Option, Result}
use Rattle.house.specs.declared.answer.Refusal.{Refusal}

abbrev pub Judged : Type 0
Judged = Result (ℕ × Option ℕ) Refusal
