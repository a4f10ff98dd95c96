-- What the reader hands out, and what a whole import answers. Assumes nothing.
use Rattle.std.specs.Prelude.{Bool, true, false, ℕ, Option, Result, Err}
use Rattle.capture.specs.declared.answer.Refusal.{Refusal}

-- An event byte, or that there is none left, or why nothing is handed out.
abbrev pub Taken : Type 0
Taken = Result (Option ℕ) Refusal

-- How many events were written, or why nothing was.
abbrev pub Imported : Type 0
Imported = Result ℕ Refusal

-- One test before others: where it fails, its refusal is the answer.
abbrev pub must : {A : Type 0} → Bool → Refusal → Result A Refusal → Result A Refusal
must true r others = others
must false r others = Err r
