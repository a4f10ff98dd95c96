-- What one event does to a run, as the code does it. Assumes nothing.
use Rattle.std.specs.Prelude.{◌≡◌, List, [], ◌∷◌, ◌++◌, ℕ, ◌+◌, ◌*◌, ◌≤◌, ◌<◌, min, length, get_or, Option, Some}
use Rattle.table.specs.Bytes.{symbol_of}
use Rattle.table.specs.declared.answer.Symbol.TheVariants.{Input, Output}
use Rattle.run.specs.declared.lag.Lags.{Lags}
use Rattle.run.specs.declared.lag.Window.{Window}
use Rattle.run.specs.Run.{number, Line, Put, At}
use Rattle.run.specs.Lag.{Lagged, Came, Went, PastLags, past_of}
use Rattle.run.specs.Window.{SameLine}

-- One valid event more: an input, or an output.
pub data Stepped (rows : List ℕ) (i o B c b : ℕ) (w : Window) : Window → Type 0 where
  came : {a : ℕ} {w' : Window} → symbol_of b i o ≡ Some (Input a) → w'.count ≡ min (w.count + 1) B
      → Came rows (i + o) c a w.base w.words w.line w'.base w'.words w'.line → Stepped rows i o B c b w w'
  went : {a : ℕ} {w' : Window} → symbol_of b i o ≡ Some (Output a) → SameLine w w'
      → Went rows (i + o) (i + a) c w.line w.base w.count w.words w'.words → Stepped rows i o B c b w w'

-- The line of the set is written for event k, and its lags are told, none where there is nothing.
pub record Recorded (w : Window) (c k : ℕ) (before after : List ℕ) (lags : Option Lags) : Type 0 where
  pub line : List ℕ
  pub put : Put (12 * k) line before after
  pub of_set : Line (Lagged w.words w.base w.count c) line
  pub past : PastLags w.words w.base (w.count + c) (past_of lags)

-- The line of nothing.
abbrev pub empty_line : List ℕ
empty_line = number 0 ++ (255 ∷ 255 ∷ 255 ∷ 255 ∷ [])

-- It stands for the events from k to below n, and the other bytes are as they were.
pub record Emptied (k n : ℕ) (before after : List ℕ) : Type 0 where
  pub size : length after ≡ length before
  pub lines : (i : ℕ) → k ≤ i → i < n → At (12 * i) empty_line after
  pub below : (q : ℕ) → q < 12 * k → get_or after q 0 ≡ get_or before q 0
  pub above : (q : ℕ) → 12 * n ≤ q → get_or after q 0 ≡ get_or before q 0
