-- What the steps of an event and of a sweep do to the 264 words of a set. Assumes nothing.
use Rattle.std.specs.Prelude.{◌≡◌, List, ◌↔◌, ◌⊎◌, ℕ, suc, ◌+◌, ◌*◌, ◌≤◌, ◌<◌, length, get_or}
use Rattle.model.specs.Limits.{most_waiting, most_losses}
use Rattle.model.specs.Table.{Table, Valid, Bounded, width, byte}
use Rattle.model.specs.Levels.{oldest}
use Rattle.states.specs.In.{In, Has}
use Rattle.states.specs.Rows.{Leads}
use Rattle.session.specs.Sets.{InCell}

-- LEVELS

-- x is the level of w waiting: its eight words.
pub record Level (set : List ℕ) (w : ℕ) (x : List ℕ) : Type 0 where
  pub words : (r : ℕ) → r < 8 → get_or x r 0 ≡ get_or set (8 * w + r) 0

-- The level of w waiting has become x, and the words below and above it are as they were.
pub record Stored (w : ℕ) (x before after : List ℕ) : Type 0 where
  pub size : length after ≡ length before
  pub words : (r : ℕ) → r < 8 → get_or after (8 * w + r) 0 ≡ get_or x r 0
  pub below : (k : ℕ) → k < 8 * w → get_or after k 0 ≡ get_or before k 0
  pub above : (k : ℕ) → 8 * w + 8 ≤ k → get_or after k 0 ≡ get_or before k 0

-- x is the level `here` with the states `taken` at run 0, and those of `above` one loss later where fewer than c are lost.
pub record LoweredTo (here above : List ℕ) (taken c : ℕ) (x : List ℕ) : Type 0 where
  pub first : (s : ℕ) → Has x 0 s ↔ (Has here 0 s ⊎ In s taken)
  pub later : (r s : ℕ) → suc r < 8 → Has x (suc r) s ↔ (Has here (suc r) s ⊎ ((suc r < c) × Has above r s))

-- THE STEPS OF A SWEEP

-- The words below and above the level of waiting w are as they were.
pub record Beside (w : ℕ) (before after : List ℕ) : Type 0 where
  pub below : (k : ℕ) → k < 8 * w → get_or after k 0 ≡ get_or before k 0
  pub above : (k : ℕ) → 8 * w + 8 ≤ k → get_or after k 0 ≡ get_or before k 0

-- Some state of the level of waiting w is led to s by the column.
pub record Took (rows : List ℕ) (width column : ℕ) (set : List ℕ) (w s : ℕ) : Type 0 where
  pub from : ℕ
  pub lost : ℕ
  pub eight : lost < 8
  pub member : InCell set w lost from
  pub leads : Leads rows width column from s

-- Takes and losses from the level of waiting w + 1 are put into that of waiting w; the input at the head is a.
pub record Lowered (rows : List ℕ) (width c a w : ℕ) (before after : List ℕ) : Type 0 where
  pub beside : Beside w before after
  pub taken : (s : ℕ) → InCell after w 0 s ↔ (InCell before w 0 s ⊎ Took rows width a before (suc w) s)
  pub lost : (r s : ℕ) → suc r < 8 → InCell after w (suc r) s ↔ (InCell before w (suc r) s ⊎ ((suc r < c) × InCell before (suc w) r s))

-- The levels from waiting w up to below top are lowered, from the longest line to the shortest, with the inputs h as the line; the others
-- are as they were.
pub record SweptFrom (rows : List ℕ) (width c : ℕ) (h : List ℕ) (w top : ℕ) (before after : List ℕ) : Type 0 where
  pub below : (k : ℕ) → k < 8 * w → get_or after k 0 ≡ get_or before k 0
  pub above : (k : ℕ) → 8 * top ≤ k → get_or after k 0 ≡ get_or before k 0
  pub taken : (v s : ℕ) → w ≤ v → v < top → InCell after v 0 s ↔ (InCell before v 0 s ⊎ Took rows width (oldest (suc v) h) after (suc v) s)
  pub lost : (v r s : ℕ) → w ≤ v → v < top → suc r < 8 → InCell after v (suc r) s ↔ (InCell before v (suc r) s ⊎ ((suc r < c) × InCell after (suc v) r s))

-- THE EVENT

-- An input comes: the levels below n go up by one, and nothing is left at waiting 0.
pub record Shifted (n : ℕ) (before after : List ℕ) : Type 0 where
  pub first : (k : ℕ) → k < 8 → get_or after k 0 ≡ 0
  pub moved : (k : ℕ) → k < 8 * n → get_or after (8 + k) 0 ≡ get_or before k 0
  pub above : (k : ℕ) → 8 * n + 8 ≤ k → get_or after k 0 ≡ get_or before k 0

-- An output is seen: state s of the level of w waiting follows the column to t; and in all levels up to n.
pub record Followed (rows : List ℕ) (width column s t : ℕ) (before : List ℕ) (w r : ℕ) : Type 0 where
  pub member : InCell before w r s
  pub leads : Leads rows width column s t

pub record SentOn (rows : List ℕ) (width column n : ℕ) (before after : List ℕ) : Type 0 where
  pub sent : (w r t : ℕ) → w ≤ n → r < 8 → InCell after w r t ↔ ((s : ℕ) × Followed rows width column s t before w r)
  pub above : (k : ℕ) → 8 * n + 8 ≤ k → get_or after k 0 ≡ get_or before k 0

-- WHAT IS KNOWN OF THE TABLE AND THE LINE

-- The rows of table T stand at the beginning of the bytes, one after another.
abbrev pub Packed : Table → List ℕ → Type 0
Packed T rows = (s k : ℕ) → s < T.states → k < width T → get_or rows (s * width T + k) 255 ≡ byte T s k

-- What a sweep needs to know: a valid table, whose rows are these, bounds that the words have room for, and valid inputs, as many as may wait.
pub record Ready (T : Table) (rows : List ℕ) (B c : ℕ) (h : List ℕ) (top : ℕ) : Type 0 where
  pub table : Valid T
  pub packed : Packed T rows
  pub bounds : Bounded B c
  pub inputs : (k : ℕ) → k < length h → get_or h k 0 < T.inputs
  pub few : top ≤ B
  pub held : top ≤ length h

-- Every state is one of the table, no more than top wait, and fewer than c are lost.
pub record Contained (T : Table) (c top : ℕ) (set : List ℕ) : Type 0 where
  pub state : (w r s : ℕ) → w ≤ most_waiting → r < most_losses → InCell set w r s → s < T.states
  pub waiting : (w r s : ℕ) → w ≤ most_waiting → r < most_losses → InCell set w r s → w ≤ top
  pub run : (w r s : ℕ) → w ≤ most_waiting → r < most_losses → InCell set w r s → r < c
