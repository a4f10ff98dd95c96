-- Which version this is. Assumes nothing.
use Rattle.std.specs.Prelude.{ℕ, ◌+◌, ◌*◌}

-- Version 0.2.0.
abbrev pub major : ℕ
major = 0

abbrev pub minor : ℕ
minor = 2

abbrev pub patch : ℕ
patch = 0

-- As one number: 10,000 × major + 100 × minor + patch.
abbrev pub number_of : ℕ → ℕ → ℕ → ℕ
number_of major minor patch = 10000 * major + 100 * minor + patch

abbrev pub version : ℕ
version = number_of major minor patch
