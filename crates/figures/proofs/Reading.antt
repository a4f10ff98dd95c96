-- The flag that a word is. Assumes nothing.
use Rattle.std.proofs.Common.{◌≡◌, ℕ, zero, suc, ◌-◌, ◌^◌, ◌<◌, ◌≤◌, refl, arith, Option, Some, None}
use Rattle.std.specs.Option.{SomeIff}
use Rattle.figures.specs.Figures.{flag_word, flag_in}
use Rattle.figures.proofs.Laws.{flag_kept}

-- one less than the word, where it is not 0
pub value : (word : ℕ) (flag : Option ℕ) → SomeIff flag (1 ≤ word) (word - 1) → flag ≡ flag_in word
unfolding flag_in
value zero None h = refl
value zero (Some place) h = absurd (omega (arith, h.0))
value (suc n) None h = absurd (h (omega arith))
value (suc n) (Some place) h = let e : place ≡ n = omega (arith, h.1) in rw e

pub fits : (word : ℕ) (flag : Option ℕ) → SomeIff flag (1 ≤ word) (word - 1) → word < 2 ^ 64 → flag_word flag < 2 ^ 64
fits word flag h l = rw (value word flag h, flag_kept word) l
