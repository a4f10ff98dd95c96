-- The first of some numbers that passes a test. Assumes nothing.
use Rattle.std.specs.Prelude.{Bool, cond, ℕ, zero, suc, Option, Some, None}

-- What was found, or else n if it passes.
abbrev pub or_last : (ℕ → Bool) → ℕ → Option ℕ → Option ℕ
or_last p n (Some k) = Some k
or_last p n None = cond (p n) (Some n) None

-- The first number below n that passes the test p, if any.
unfoldable pub first : (ℕ → Bool) → ℕ → Option ℕ
first p zero = None
first p (suc n) = or_last p n (first p n)
