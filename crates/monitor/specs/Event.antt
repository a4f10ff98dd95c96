-- What one event does to a set and its line, as the code does it. Assumes nothing.
use Rattle.std.specs.Prelude.{◌≡◌, List, ℕ, ◌+◌, min, length, take}
use Rattle.monitor.specs.Sweep.{SweptFrom, Shifted, SentOn}
use Rattle.monitor.specs.Feed.{Held}

-- Input a comes to a line of n, of at most `most`: it has top then. The levels go up, and are swept.
pub record Arrival (rows : List ℕ) (width most c n a top : ℕ) (set held set' held' : List ℕ) : Type 0 where
  pub count : top ≡ min (n + 1) most
  pub long : length held ≡ 32
  pub words : length set' ≡ 264
  pub held_on : Held n most a held held'
  pub raised : List ℕ
  pub shifted : Shifted top set raised
  pub swept : SweptFrom rows width c (take top held') 0 top raised set'

-- An output is seen: the levels follow the column, and are swept.
pub record Departure (rows : List ℕ) (width column c n : ℕ) (set held set' : List ℕ) : Type 0 where
  pub long : length held ≡ 32
  pub words : length set' ≡ 264
  pub followed : List ℕ
  pub sent : SentOn rows width column n set followed
  pub swept : SweptFrom rows width c (take n held) 0 n followed set'
