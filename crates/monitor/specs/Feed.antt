-- Document 01: feeding a session one event, for every session and every byte. Assumes nothing.
use Rattle.std.specs.Prelude.{◌≡◌, List, [], ◌∷◌, ◌++◌, ◌↔◌, ℕ, ◌+◌, ◌≤◌, ◌<◌, length, get_or, Option, Some, None, Ok, Err}
use Rattle.model.specs.Limits.{most_events}
use Rattle.model.specs.Model.{box, event, inputs_of, newest, Config}
use Rattle.model.specs.Model as model
use Rattle.model.specs.Levels.{held_after}
use Rattle.table.specs.Bytes.{symbol_of}
use Rattle.table.specs.declared.answer.Refusal.{Refusal}
use Rattle.table.specs.declared.answer.Refusal.TheVariants as refusal
use Rattle.session.specs.declared.Session.{Session}
use Rattle.session.specs.Sets.{Holds}
use Rattle.session.specs.Session.{table_in, line, Sound}
use Rattle.monitor.specs.declared.feed.Fed.{Fed}

-- THE HELD INPUTS

-- The bytes are the list, zeros after.
pub record Shows (l bytes : List ℕ) : Type 0 where
  pub size : length bytes ≡ 32
  pub places : (k : ℕ) → k < 32 → get_or bytes k 0 ≡ get_or l k 0

-- Where n inputs were held, the newest of them and a are, so many at most.
pub record Held (n most a : ℕ) (before after : List ℕ) : Type 0 where
  pub size : length after ≡ length before
  pub line : (l : List ℕ) → length l ≡ n → Shows l before → Shows (newest most (l ++ (a ∷ []))) after

-- THE SESSION

-- A flag stays. Where there was none and the set is empty, it falls at this event.
pub data FlagAfter (events : ℕ) (set : List ℕ) : Option ℕ → Option ℕ → Type 0 where
  stays : {place : ℕ} → FlagAfter events set (Some place) (Some place)
  clear : (x : Config ℕ) → Holds set x → FlagAfter events set None None
  falls : ((x : Config ℕ) → Holds set x → ⊥) → FlagAfter events set None (Some events)

-- r is the session s one event later, with this set, these held inputs and this count of inputs.
pub record MovedOn (s : Session) (set held : List ℕ) (arrived : ℕ) (r : Session) : Type 0 where
  pub states : r.states ≡ s.states
  pub inputs : r.inputs ≡ s.inputs
  pub outputs : r.outputs ≡ s.outputs
  pub rows : r.rows ≡ s.rows
  pub waiting : r.waiting ≡ s.waiting
  pub losses : r.losses ≡ s.losses
  pub words : r.set ≡ set
  pub bytes : r.held ≡ held
  pub events : r.events ≡ s.events + 1
  pub inputs_seen : r.arrived ≡ arrived
  pub flag : FlagAfter s.events r.set s.flag r.flag

-- t is the sound session s, fed the valid event byte b.
pub record FedTo (s : Session) (b : ℕ) (t : Session) : Type 0 where
  pub states : t.states ≡ s.states
  pub inputs : t.inputs ≡ s.inputs
  pub outputs : t.outputs ≡ s.outputs
  pub rows : t.rows ≡ s.rows
  pub waiting : t.waiting ≡ s.waiting
  pub losses : t.losses ≡ s.losses
  -- the configurations reached from a member of its set by the event and then any number of takes and losses, all admissible, with the
  -- held inputs as the line
  pub words : length t.set ≡ 264
  pub set : (x : Config ℕ) → Holds t.set x ↔ model.Fed (box (table_in s)) s.waiting s.losses (line s) (Holds s.set) (event b) x
  -- the newest inputs, kept up after a flag too
  pub held : Shows (newest s.waiting (held_after (line s) (event b))) t.held
  pub events : t.events ≡ s.events + 1
  pub arrived : t.arrived ≡ s.arrived + length (inputs_of (event b ∷ []))
  pub flag : FlagAfter s.events t.set s.flag t.flag

-- A refused feed hands back the session it got.
abbrev pub refused : Refusal → Session → Fed
refused r s = record { test = Err r; session = s }

abbrev pub passed : Session → Fed
passed s = record { test = Ok tt; session = s }

-- The byte is an event of the session's table.
abbrev pub ValidEvent : Session → ℕ → Type 0
ValidEvent s b = symbol_of b s.inputs s.outputs ≡ None → ⊥

-- Feeding: 8, 9, 7. Number 9 counts this event too, so a full session gives 1,048,577.
pub data Feeds (s : Session) (b : ℕ) : Fed → Type 0 where
  unsound : (Sound s → ⊥) → Feeds s b (refused refusal.Unsound s)
  full : Sound s → most_events ≤ s.events → Feeds s b (refused (refusal.Events (s.events + 1)) s)
  invalid : Sound s → s.events < most_events → symbol_of b s.inputs s.outputs ≡ None → Feeds s b (refused (refusal.Event s.events) s)
  fed : {t : Session} → Sound s → s.events < most_events → ValidEvent s b → FedTo s b t → Feeds s b (passed t)
