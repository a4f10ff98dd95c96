-- Document 01, "Event bytes and sessions": what a session carries, and when it is sound. Assumes nothing.
use Rattle.std.specs.Prelude.{◌≡◌, List, ℕ, ◌+◌, ◌*◌, ◌≤◌, ◌<◌, min, length, get_or, take, Option, Some, None}
use Rattle.model.specs.Limits.{most_events}
use Rattle.model.specs.Table.{Table, Valid, Bounded}
use Rattle.model.specs.Model.{Config, cfg}
use Rattle.model.specs.Demands.{Fits}
use Rattle.table.specs.Bytes.{table_of}
use Rattle.session.specs.declared.Session.{Session}
use Rattle.states.specs.In.{In}
use Rattle.session.specs.Sets.{Holds}

-- The bytes that the table's rows use,
abbrev pub used : Session → ℕ
used s = s.states * (s.inputs + s.outputs)

-- and the table.
abbrev pub table_in : Session → Table
table_in s = table_of (take (used s) s.rows) s.states s.inputs s.outputs

-- The held inputs are the newest ones, B of them or all seen if fewer, oldest first: so many,
abbrev pub kept : Session → ℕ
kept s = min s.waiting s.arrived

-- and these.
abbrev pub line : Session → List ℕ
line s = take (kept s) s.held

-- CLAUSE BY CLAUSE

-- Every place from n on is 0.
abbrev pub ZeroFrom : ℕ → List ℕ → Type 0
ZeroFrom n l = (k : ℕ) → n ≤ k → k < length l → get_or l k 0 ≡ 0

-- The first n places are below the limit.
abbrev pub BelowIn : ℕ → ℕ → List ℕ → Type 0
BelowIn limit n l = (k : ℕ) → k < n → k < length l → get_or l k 0 < limit

-- Its table passes the tests, and unused places of it are 0.
pub record TableSound (rows : List ℕ) (states inputs outputs : ℕ) : Type 0 where
  pub valid : Valid (table_of (take (states * (inputs + outputs)) rows) states inputs outputs)
  pub rest : ZeroFrom (states * (inputs + outputs)) rows

-- Its set has no state, waiting count or run outside table and bounds, and no waiting count above the inputs seen: the word x of w waiting
-- and a run of r, and all words.
abbrev pub CellFits : ℕ → ℕ → ℕ → ℕ → ℕ → ℕ → ℕ → Type 0
CellFits x w r states B c seen = (q : ℕ) → In q x → Fits states B c seen (cfg q w r)

abbrev pub SetFits : List ℕ → ℕ → ℕ → ℕ → ℕ → Type 0
SetFits set states B c seen = (x : Config ℕ) → Holds set x → Fits states B c seen x

-- Its n held inputs are valid, and unused places of them are 0.
pub record HeldSound (held : List ℕ) (n inputs : ℕ) : Type 0 where
  pub valid : BelowIn inputs n held
  pub rest : ZeroFrom n held

-- A flag's place is below the events seen and present exactly when the set is empty.
abbrev pub FlagFits : ℕ → List ℕ → Option ℕ → Type 0
FlagFits events set None = (x : Config ℕ) × Holds set x
FlagFits events set (Some place) = (place < events) × ((x : Config ℕ) → Holds set x → ⊥)

-- A session is sound if
pub record Sound (s : Session) : Type 0 where
  -- its table and bounds pass the tests below;
  pub table : TableSound s.rows s.states s.inputs s.outputs
  pub bounds : Bounded s.waiting s.losses
  -- its set has no state, waiting count or run outside table and bounds, and no waiting count above the inputs seen;
  pub set : SetFits s.set s.states s.waiting s.losses s.arrived
  -- its held inputs are valid, and unused places of them and of the table are 0;
  pub held : HeldSound s.held (kept s) s.inputs
  -- inputs seen do not exceed events seen, nor events 1,048,576;
  pub seen : s.arrived ≤ s.events
  pub limit : s.events ≤ most_events
  -- and a flag's place is below the events seen and present exactly when the set is empty.
  pub flag : FlagFits s.events s.set s.flag

-- IN THEOREMS

-- The lengths that a session's set and held inputs have in memory.
pub record Proper (s : Session) : Type 0 where
  pub set : length s.set ≡ 264
  pub held : length s.held ≡ 32

-- The place of a flag, if any.
abbrev pub place_of : Option ℕ → Option ℕ
place_of None = None
place_of (Some place) = Some place
