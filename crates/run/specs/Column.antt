-- A column of a table: a mask and the distance that its states move on by, modulo 64; a second mask and its distance; and the rest of the
-- states that the column allows. Assumes nothing.
use Rattle.std.specs.Prelude.{◌≡◌, List, ℕ, ◌+◌, ◌%◌, ◌<◌, bit_or, get_or}
use native.Mathlib.Bridge.{le_prop}
use native.Mathlib.Nat.{ℕ_set}
use Rattle.states.specs.In.{In}
use Rattle.states.specs.Rows.{byte_at}
use Rattle.run.specs.declared.column.Column.{Column}

-- State t is a state of x, d further, modulo 64.
pub record Turned (x d t : ℕ) : Type 0 where
  pub from : ℕ
  pub here : In from x
  pub there : (from + d) % 64 ≡ t

-- The states of a mask are below n, and move on by the distance to what f says.
pub record Moves (f : ℕ → ℕ) (n mask distance : ℕ) : Type 0 where
  pub small : distance < 64
  pub below : (s : ℕ) → In s mask → s < n
  pub leads : (s : ℕ) → In s mask → (s + distance) % 64 ≡ f s

-- x is the column f as far as its states below n go.
pub record SortedBy (f : ℕ → ℕ) (n : ℕ) (x : Column) : Type 0 where
  pub near : Moves f n x.near x.near_by
  pub far : Moves f n x.far x.far_by
  pub rest_below : (s : ℕ) → In s x.rest → s < n
  pub rest_leads : (s : ℕ) → In s x.rest → f s < 64
  pub all : (s : ℕ) → s < n → f s < 64 → In s (bit_or (bit_or x.near x.far) x.rest)

abbrev pub Sorted : List ℕ → ℕ → ℕ → ℕ → Column → Type 0
Sorted rows width column = SortedBy (byte_at rows width column)

-- With the state n, which leads to t, it is the column one state further.
abbrev pub SortedTo : Column → ℕ → ℕ → Column → Type 0
SortedTo x n t r = (f : ℕ → ℕ) → f n ≡ t → SortedBy f n x → SortedBy f (n + 1) r

-- The n first columns stand one after another.
abbrev pub Ready : List ℕ → ℕ → ℕ → List Column → Type 0
Ready rows width n columns = (k : ℕ) (d : Column) → k < n → Sorted rows width k 64 (get_or columns k d)

-- There is one proof of it at most.
In-prop : (s x : ℕ) → IsProp (In s x)
unfolding In
In-prop s x = Prim.hlevel (le_prop, ℕ_set)

pub Ready-prop : (rows : List ℕ) (width n : ℕ) (columns : List Column) → IsProp (Ready rows width n columns)
Ready-prop rows width n columns = Prim.hlevel (In-prop, le_prop, ℕ_set)
