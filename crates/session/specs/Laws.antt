-- What is shown of sessions and their opening, each under one sentence. proofs/Laws.antt proves them all. Assumes nothing.
use Rattle.std.specs.Prelude.{◌≡◌, Bool, not, List, [], ◌↔◌, ℕ, length, None, Ok}
use Rattle.model.specs.Table.{Table, Valid, Bounded}
use Rattle.model.specs.Model.{Config, cfg}
use Rattle.table.specs.Bytes.{table_of}
use Rattle.states.specs.Decides.{Decides}
use Rattle.states.specs.In.{Empty}
use Rattle.session.specs.declared.Session.{Session}
use Rattle.session.specs.Sets.{Holds, Finds}
use Rattle.session.specs.Session.{table_in, line, Sound, Proper}
use Rattle.session.specs.Open.{opening, begun, zero_session}

-- Words of which none has a state hold nothing, and others a configuration.
abbrev pub FindsUnlessEmpty : Type 0
FindsUnlessEmpty = (set : List ℕ) (b : Bool) → length set ≡ 264 → Decides b (Empty set) → Finds set (not b)

-- OPENING

-- An opening is refused exactly when the table is not valid or a bound is not within its limit.
abbrev pub OpeningPasses : Type 0
OpeningPasses = (rows : List ℕ) (s i o B c : ℕ) → opening rows s i o B c ≡ Ok tt ↔ (Valid (table_of rows s i o) × Bounded B c)

-- An opened session is sound and has the one configuration (0,0,0).
abbrev pub OpenedSound : Type 0
OpenedSound =
    (rows : List ℕ) (s i o B c : ℕ) → opening rows s i o B c ≡ Ok tt
    → Sound (begun rows s i o B c) × ((x : Config ℕ) → Holds (begun rows s i o B c).set x ↔ (x ≡ cfg 0 0 0))

-- It has the table and the bounds that it was opened with, no held inputs, counts 0 and no flag, in memory of the right lengths.
pub record Begins (T : Table) (B c : ℕ) (s : Session) : Type 0 where
  pub proper : Proper s
  pub table : table_in s ≡ T
  pub waiting : s.waiting ≡ B
  pub losses : s.losses ≡ c
  pub held : line s ≡ []
  pub events : s.events ≡ 0
  pub arrived : s.arrived ≡ 0
  pub flag : s.flag ≡ None

abbrev pub OpenedBegins : Type 0
OpenedBegins = (rows : List ℕ) (s i o B c : ℕ) → opening rows s i o B c ≡ Ok tt → Begins (table_of rows s i o) B c (begun rows s i o B c)

-- A session of zeros only is not sound.
abbrev pub ZerosUnsound : Type 0
ZerosUnsound = Sound zero_session → ⊥
