-- What is shown of feeding, each under one sentence. proofs/Laws.antt proves them all. Assumes nothing.
use Rattle.std.specs.Prelude.{◌≡◌, List, [], ◌∷◌, ℕ, ◌<◌, length, Ok}
use Rattle.model.specs.Limits.{most_events}
use Rattle.model.specs.Table.{Table}
use Rattle.model.specs.Model.{box, events, inputs_of, Config, cfg, FlagIs}
use Rattle.model.specs.Demands.{Carries, Slack, Later}
use Rattle.table.specs.Bytes.{table_of}
use Rattle.session.specs.declared.Session.{Session}
use Rattle.monitor.specs.declared.feed.Fed.{Fed}
use Rattle.session.specs.Sets.{Holds}
use Rattle.session.specs.Session.{table_in, line, Sound, Proper, place_of}
use Rattle.session.specs.Open.{opening, begun}
use Rattle.monitor.specs.Feed.{passed, ValidEvent, FedTo, Feeds}

-- FEEDING

-- Any two answers that a feed may give are equal.
abbrev pub OneFeed : Type 0
OneFeed = (s : Session) (b : ℕ) (r r' : Fed) → Feeds s b r → Feeds s b r' → r ≡ r'

-- A sound session that is not full is never refused a valid event.
abbrev pub NotRefused : Type 0
NotRefused = (s : Session) (b : ℕ) (r : Fed) → Feeds s b r → Sound s → s.events < most_events → ValidEvent s b → (t : Session) × (r ≡ passed t) × FedTo s b t

-- A fed session is sound again.
abbrev pub FedSound : Type 0
FedSound = (s t : Session) (b : ℕ) → Proper s → Feeds s b (passed t) → Sound t × Proper t

-- DEMAND 2 FOR SESSIONS

-- The session s has followed the trace of the bytes, under table T and bounds B and c: its set is exactly the plausible set, its held
-- inputs are the newest ones, and its flag is where the model has it.
pub record Follows (T : Table) (B c : ℕ) (bytes : List ℕ) (s : Session) : Type 0 where
  pub sound : Sound s
  pub proper : Proper s
  pub table : table_in s ≡ T
  pub waiting : s.waiting ≡ B
  pub losses : s.losses ≡ c
  pub carries : Carries (box T) B c (events bytes) (line s) (Holds s.set)
  pub seen : s.events ≡ length bytes
  pub arrived : s.arrived ≡ length (inputs_of (events bytes))
  pub flag : FlagIs (box T) B c (events bytes) (place_of s.flag)

-- Feeding a session one byte after another, none refused, gives t.
pub data FedAll : Session → List ℕ → Session → Type 0 where
  none_left : {s : Session} → FedAll s [] s
  then : {s t u : Session} {b : ℕ} {bytes : List ℕ} → Feeds s b (passed t) → FedAll t bytes u → FedAll s (b ∷ bytes) u

-- From an opened session that is the plausible set.
abbrev pub PlausibleAfterFeeding : Type 0
PlausibleAfterFeeding =
    (rows : List ℕ) (s i o B c : ℕ) (bytes : List ℕ) (t : Session) → opening rows s i o B c ≡ Ok tt → FedAll (begun rows s i o B c) bytes t
    → Follows (table_of rows s i o) B c bytes t

-- DEMAND 3 FOR SESSIONS

-- Allowing more, each state of the first session's set is in the second's; with j zero, its waiting count and loss run too; and the flag
-- falls after all that the first session had seen when it was flagged, or not at all. The table has n inputs.
pub record KeptBy (n j : ℕ) (bytes bytes' : List ℕ) (s s' : Session) : Type 0 where
  pub state : (q w r : ℕ) → Holds s.set (cfg q w r) → (w' : ℕ) × (r' : ℕ) × Holds s'.set (cfg q w' r')
  pub same : j ≡ 0 → (x : Config ℕ) → Holds s.set x → Holds s'.set x
  pub flag : Later n j (events bytes) (events bytes') (place_of s.flag) (place_of s'.flag)

abbrev pub SessionsAllowMore : Type 0
SessionsAllowMore =
    (T T' : Table) (B c B' c' j : ℕ) (bytes bytes' : List ℕ) (s s' : Session) → Slack T T' B c B' c' j (events bytes) (events bytes')
    → Follows T B c bytes s → Follows T' B' c' bytes' s' → KeptBy T.inputs j bytes bytes' s s'
