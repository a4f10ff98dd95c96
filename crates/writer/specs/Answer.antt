-- What writing a file answers: how many bytes it has, or why nothing was written. Of the reader's refusals only those of what is to be held
-- come here, and number 10 tells the length that the buffer needs. Assumes nothing.
use Rattle.std.specs.Prelude.{ℕ, Result}
use Rattle.house.specs.declared.answer.Refusal.{Refusal}

abbrev pub Writing : Type 0
Writing = Result ℕ Refusal
