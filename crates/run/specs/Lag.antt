-- The plausible set of a run, kept by lag: waiting + run, the inputs that came after the one last taken. Assumes nothing.
use Rattle.std.specs.Prelude.{◌≡◌, List, [], ◌∷◌, ◌++◌, ◌↔◌, ◌⊎◌, ℕ, suc, ◌+◌, ◌-◌, ◌≤◌, ◌<◌, min, length, get_or, Option, Some, None, IfSome, MatchOption}
use Rattle.model.specs.Model.{Config}
use Rattle.states.specs.In.{In}
use Rattle.states.specs.Rows.{Leads, Image}
use Rattle.run.specs.declared.lag.Lags.{Lags}
use Rattle.run.specs.declared.lag.Tally.{Tally}
use Rattle.run.specs.Run.{number}

-- THE SET

-- The words from base on, one a lag, stand for the configurations of which at most n wait, fewer than c are lost, and the state is in the
-- word of their lag.
pub record Lagged (words : List ℕ) (base n c : ℕ) (x : Config ℕ) : Type 0 where
  pub room : x.waiting ≤ n
  pub few : x.run < c
  pub member : In x.state (get_or words (base + (x.waiting + x.run)) 0)

-- State s is in one of the c words from a place on.
pub record Within (words : List ℕ) (at c s : ℕ) : Type 0 where
  pub lost : ℕ
  pub few : lost < c
  pub member : In s (get_or words (at + lost) 0)

-- The column leads to state t from one of them.
pub record Drawn (rows : List ℕ) (width column c : ℕ) (words : List ℕ) (at t : ℕ) : Type 0 where
  pub from : ℕ
  pub source : Within words at c from
  pub leads : Leads rows width column from t

-- AN INPUT

-- The 40 places from the base on have what they had, and there is a place below it.
pub record Based (base : ℕ) (words line : List ℕ) (base' : ℕ) (words' line' : List ℕ) : Type 0 where
  pub above : 0 < base'
  pub low : base' ≤ 64
  pub words_long : length words' ≡ 104
  pub line_long : length line' ≡ 104
  pub words_same : (j : ℕ) → j < 40 → get_or words' (base' + j) 0 ≡ get_or words (base + j) 0
  pub line_same : (j : ℕ) → j < 40 → get_or line' (base' + j) 0 ≡ get_or line (base + j) 0

-- Input a comes: every lag is one more, and at lag 0 is what takes it.
pub record Came (rows : List ℕ) (width c a base : ℕ) (words line : List ℕ) (base' : ℕ) (words' line' : List ℕ) : Type 0 where
  pub low : base' < 64
  pub words_long : length words' ≡ 104
  pub line_long : length line' ≡ 104
  pub moved : (j : ℕ) → j < 40 → get_or words' (base' + suc j) 0 ≡ get_or words (base + j) 0
  pub taken : (t : ℕ) → In t (get_or words' base' 0) ↔ Drawn rows width a c words' (suc base') t
  pub head : get_or line' base' 0 ≡ a
  pub older : (w : ℕ) → w < 40 → get_or line' (base' + suc w) 0 ≡ get_or line (base + w) 0

-- AN OUTPUT

-- At the lags from k to below m every state follows the column; the other words are as they were.
pub record FollowedFrom (rows : List ℕ) (width column base m k : ℕ) (before after : List ℕ) : Type 0 where
  pub size : length after ≡ length before
  pub sent : (j t : ℕ) → k ≤ j → j < m → In t (get_or after (base + j) 0) ↔ Image rows width column (get_or before (base + j) 0) t
  pub below : (i : ℕ) → i < base + k → get_or after i 0 ≡ get_or before i 0
  pub above : (i : ℕ) → base + m ≤ i → get_or after i 0 ≡ get_or before i 0

-- At the lags from k to below n also stands where the head of a line of one more leads when it is taken.
pub record DrawnFrom (rows : List ℕ) (width c : ℕ) (line : List ℕ) (base n k : ℕ) (before after : List ℕ) : Type 0 where
  pub size : length after ≡ length before
  pub taken : (w t : ℕ) → k ≤ w → w < n
      → In t (get_or after (base + w) 0) ↔ (In t (get_or before (base + w) 0) ⊎ Drawn rows width (get_or line (base + w) 0) c after (base + w + 1) t)
  pub below : (i : ℕ) → i < base + k → get_or after i 0 ≡ get_or before i 0
  pub above : (i : ℕ) → base + n ≤ i → get_or after i 0 ≡ get_or before i 0

-- An output is seen: the states follow its column, and then any number of inputs is taken.
pub record Went (rows : List ℕ) (width column c : ℕ) (line : List ℕ) (base n : ℕ) (before after : List ℕ) : Type 0 where
  pub between : List ℕ
  pub followed : FollowedFrom rows width column base (n + c) 0 before between
  pub drawn : DrawnFrom rows width c line base n 0 between after

-- THE TALLY

-- The word of lag j has a state.
abbrev pub HasLag : List ℕ → ℕ → ℕ → Type 0
HasLag words base j = (q : ℕ) × In q (get_or words (base + j) 0)

-- r is one more than the greatest of the m first lags that has a state, and 0 where none has.
pub record PastLags (words : List ℕ) (base m r : ℕ) : Type 0 where
  pub most : r ≤ m
  pub here : 0 < r → HasLag words base (r - 1)
  pub none_above : (j : ℕ) → r ≤ j → j < m → HasLag words base j → ⊥

-- Of the words, this is the first that is not 0, and this the last.
pub record Found (words : List ℕ) (l : Lags) : Type 0 where
  pub within : l.most < length words
  pub least : get_or words l.least 0 ≡ 0 → ⊥
  pub below : (j : ℕ) → j < l.least → get_or words j 0 ≡ 0
  pub most : get_or words l.most 0 ≡ 0 → ⊥
  pub above : (j : ℕ) → l.most < j → j < length words → get_or words j 0 ≡ 0

-- Of the m first lags, this is the least that has a state, and this the greatest.
pub record Spanned (words : List ℕ) (base m : ℕ) (l : Lags) : Type 0 where
  pub within : l.most < m
  pub least : HasLag words base l.least
  pub below : (j : ℕ) → j < l.least → HasLag words base j → ⊥
  pub most : HasLag words base l.most
  pub above : (j : ℕ) → l.most < j → j < m → HasLag words base j → ⊥

pub record Tallied (words : List ℕ) (base m : ℕ) (t : Tally) : Type 0 where
  pub states : (q : ℕ) → In q t.states ↔ Within words base m q
  pub lags : MatchOption t.lags ((j : ℕ) → j < m → HasLag words base j → ⊥) (Spanned words base m)

-- One more than the greatest lag, and 0 where there is none.
abbrev pub past_of : Option Lags → ℕ
past_of None = 0
past_of (Some l) = l.most + 1

-- THE LINE

-- The lags, if any, fit a byte.
abbrev pub SmallLags : Option Lags → Type 0
SmallLags o = IfSome o (λ l. (l.least < 256) × (l.most < 256))

-- Of a lag at least what cannot be lost waits, and at least what cannot wait is lost; at most all of it waits, or is lost, within its
-- bound. There is none where no lag has a state: 255 stands for that.
abbrev pub figures : Option Lags → ℕ → ℕ → List ℕ
figures None n c = 255 ∷ 255 ∷ 255 ∷ 255 ∷ []
figures (Some l) n c = (l.least - (c - 1)) ∷ min l.most n ∷ (l.least - n) ∷ min l.most (c - 1) ∷ []

-- The line of a tally.
abbrev pub line_of : Tally → ℕ → ℕ → List ℕ
line_of t n c = number t.states ++ figures t.lags n c
