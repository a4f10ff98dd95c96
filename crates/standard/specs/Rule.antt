-- Document 01, "The standard box", and document 02, L5: its rule, sentence by sentence. Assumes nothing.
use Rattle.std.specs.Prelude.{cond, ◌&&◌, ℕ, ◌+◌, ◌-◌, ◌*◌, ◌/◌, ◌%◌, ltb, eqb, Option, Some, None}

-- 64 states, 16 inputs, 16 outputs.
abbrev pub states : ℕ
states = 64

abbrev pub inputs : ℕ
inputs = 16

abbrev pub outputs : ℕ
outputs = 16

-- Poll numbers are counted modulo 16, and at most 3 polls are taken and not yet reported.
abbrev pub numbers : ℕ
numbers = 16

abbrev pub most_unreported : ℕ
most_unreported = 3

-- State e + 16p, with e from 0 to 15 and p from 0 to 3:
abbrev pub state : ℕ → ℕ → ℕ
state e p = e + numbers * p

-- e is the next poll number expected,
abbrev pub expected : ℕ → ℕ
expected s = s % numbers

-- p the polls taken and not yet reported.
abbrev pub unreported : ℕ → ℕ
unreported s = s / numbers

-- An input a that differs from e: the state stays; but (document 02) with nothing unreported (p = 0), a poll numbered (e − 1) modulo 16
-- makes the box ready to send that report again: row e gives e + 16.
abbrev pub after_other : ℕ → ℕ → ℕ → ℕ
after_other e p a = cond (eqb p 0 && eqb a ((e + numbers - 1) % numbers)) (state e 1) (state e p)

-- Input a: if a = e and p < 3, then e becomes (e + 1) modulo 16 and p grows by one; if a = e and p = 3, not allowed; if a differs
-- from e, as above.
unfoldable pub after_input : ℕ → ℕ → ℕ → Option ℕ
after_input e p a =
    cond (eqb a e) (cond (ltb p most_unreported) (Some (state ((e + 1) % numbers) (p + 1))) None) (Some (after_other e p a))

-- Output b: if p > 0 and b = (e − p) modulo 16, p falls by one; otherwise not allowed. A difference here ends at 0, so 16 is added first.
unfoldable pub after_output : ℕ → ℕ → ℕ → Option ℕ
after_output e p b = cond (ltb 0 p && eqb b ((e + numbers - p) % numbers)) (Some (state e (p - 1))) None

-- The rule at row s and column k: a column for each input, then one for each output.
unfoldable pub rule : ℕ → ℕ → Option ℕ
rule s k =
    cond (ltb k inputs) (after_input (expected s) (unreported s) k) (after_output (expected s) (unreported s) (k - inputs))
