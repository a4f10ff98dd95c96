-- A text, as the list of its bytes, and a number as a text. Assumes nothing.
use Rattle.std.specs.Prelude.{◌≡◌, cond, List, [], ◌∷◌, ◌++◌, ℕ, zero, suc, ◌/◌, ◌%◌, ltb, take}
use Rattle.io.specs.Digits.{hex_digit_ascii, last_digits}

-- More than the longest line has (`LinesFit`).
abbrev pub most_text : ℕ
most_text = 96

-- The text of these bytes: what does not fit is left out.
unfoldable pub text_of : List ℕ → List ℕ
text_of l = take most_text l

-- A number's digits, of at most so many, the most significant first.
abbrev pub spelt : ℕ → ℕ → List ℕ
spelt zero n = []
spelt (suc k) n = cond (ltb n 10) (hex_digit_ascii n ∷ []) (spelt k (n / 10) ++ (hex_digit_ascii (n % 10) ∷ []))

-- A number of 64 bits in decimal: 20 digits are enough.
unfoldable pub decimal : ℕ → List ℕ
decimal n = spelt 20 n

-- The same as 16 lower-case hexadecimal digits.
unfoldable pub hexadecimal : ℕ → List ℕ
hexadecimal n = last_digits 16 16 n

-- r is the text t with these bytes more, as far as they fit.
pub record Adds (t more r : List ℕ) : Type 0 where
  pub is : r ≡ text_of (t ++ more)
