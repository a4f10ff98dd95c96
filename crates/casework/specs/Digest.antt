-- Memory told by one number. Assumes nothing.
use Rattle.std.specs.Prelude.{List, ℕ, zero, suc, ◌+◌, ◌*◌, ◌%◌, length, get_or}

-- The first n bytes, each by its place, which counts from 1.
abbrev pub weighed : List ℕ → ℕ → ℕ
weighed memory zero = 0
weighed memory (suc n) = weighed memory n + suc n * get_or memory n 0

abbrev pub digest_of : List ℕ → ℕ
digest_of memory = weighed memory (length memory) % 65521
