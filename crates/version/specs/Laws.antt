-- What is shown of the version, each under one sentence. proofs/Laws.antt proves them all. Assumes nothing.
use Rattle.std.specs.Prelude.{◌≡◌, ℕ, ◌/◌, ◌%◌, ◌<◌}
use Rattle.version.specs.Version.{number_of, version}

-- There is one answer.
abbrev pub OneVersion : Type 0
OneVersion = (a b : ℕ) → a ≡ version → b ≡ version → a ≡ b

-- Each of the three figures is read from the number again, where the minor one and the patch are below 100.
pub record Figures (n major minor patch : ℕ) : Type 0 where
  pub major_is : n / 10000 ≡ major
  pub minor_is : n / 100 % 100 ≡ minor
  pub patch_is : n % 100 ≡ patch

abbrev pub FiguresBack : Type 0
FiguresBack = (major minor patch : ℕ) → minor < 100 → patch < 100 → Figures (number_of major minor patch) major minor patch
