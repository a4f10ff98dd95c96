-- What is shown of the lines, each under one sentence. proofs/Laws.antt proves them all. Assumes nothing.
use Rattle.std.specs.Prelude.{◌≡◌, List, [], ◌∷◌, ◌++◌, ◌↔◌, ℕ, suc, ◌+◌, ◌*◌, ◌^◌, ◌≤◌, ◌<◌, length, get_or, take, Option, Some, Ok}
use Rattle.model.specs.Model.{box, events, Config, Set, Plausible}
use Rattle.table.specs.Bytes.{table_of, symbol_of}
use Rattle.table.specs.declared.answer.Symbol.TheVariants.{Input, Output}
use Rattle.table.specs.declared.answer.Told.{Told}
use Rattle.states.specs.In.{In}
use Rattle.session.specs.Open.{opening}
use Rattle.run.specs.Run.{Lowest, Highest, StateOf, WaitingOf, RunOf, RunTo}
use Rattle.lines.specs.Texts.{most_text, text_of, decimal, hexadecimal}
use Rattle.lines.specs.Lines.{space, line_feed, symbol, pair, event_line, last_line, refused_line}

-- NOTHING IS LEFT OUT

-- A text has room for every line, and its bytes are the line.
abbrev pub TextHolds : Type 0
TextHolds = (l : List ℕ) → length l ≤ most_text → text_of l ≡ l

abbrev pub EventFits : Type 0
EventFits = (k b : ℕ) (twelve : List ℕ) → b < 256 → ((i : ℕ) → get_or twelve i 0 < 256) → length (event_line k b twelve) ≤ most_text

abbrev pub LastFits : Type 0
LastFits = (f : Option ℕ) → length (last_line f) ≤ most_text

abbrev pub RefusedFits : Type 0
RefusedFits = (t : Told) → length (refused_line t) ≤ most_text

-- WHAT A LINE TELLS

-- i or o with the symbol
abbrev pub SymbolShown : Type 0
SymbolShown =
    (b i o a : ℕ)
    → (symbol_of b i o ≡ Some (Input a) → symbol b ≡ 105 ∷ decimal a) × (symbol_of b i o ≡ Some (Output a) → symbol b ≡ 111 ∷ decimal a)

-- The line of event k, of byte b, tells the set S: its states, its least and most waiting, its least and most run, a dash for each pair
-- when it is empty.
pub record Tells (S : Set ℕ) (k b : ℕ) (line : List ℕ) : Type 0 where
  pub states : ℕ
  pub least_waiting : ℕ
  pub most_waiting : ℕ
  pub least_run : ℕ
  pub most_run : ℕ
  pub states_are : (q : ℕ) → In q states ↔ StateOf S q
  pub states_fit : states < 2 ^ 64
  pub least_waiting_is : Lowest (WaitingOf S) least_waiting
  pub most_waiting_is : Highest (WaitingOf S) most_waiting
  pub least_run_is : Lowest (RunOf S) least_run
  pub most_run_is : Highest (RunOf S) most_run
  pub empty : (states ≡ 0) ↔ ((x : Config ℕ) → S x → ⊥)
  pub line_is : line
      ≡ decimal k ++ (space ∷ symbol b) ++ (space ∷ hexadecimal states) ++ (space ∷ pair states least_waiting most_waiting)
      ++ (space ∷ pair states least_run most_run) ++ (line_feed ∷ [])

-- In a run, the line of event k tells the plausible set after the first k + 1 events.
abbrev pub LineTells : Type 0
LineTells =
    (rows : List ℕ) (s i o B c : ℕ) (trace before after : List ℕ) (f : Option ℕ) (k : ℕ) (twelve : List ℕ) → opening rows s i o B c ≡ Ok tt
    → RunTo rows s i o B c trace before after f → k < length trace → ((j : ℕ) → j < 12 → get_or twelve j 0 ≡ get_or after (12 * k + j) 0)
    → Tells (Plausible (box (table_of rows s i o)) B c (events (take (suc k) trace))) k (get_or trace k 0) (event_line k (get_or trace k 0) twelve)
