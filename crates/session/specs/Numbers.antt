-- Document 01, "Numbers for what is turned away", of an opening: which number is told when, in the document's order, 2, 3, 1, 4, 5, 6, and
-- with which places. Each number is given exactly when its own test fails and those before it hold. proofs/Numbers.antt proves the laws.
-- Assumes nothing.
use Rattle.std.specs.Prelude.{◌≡◌, List, [], ◌∷◌, ◌++◌, ◌↔◌, ◌⊎◌, ℕ, ◌*◌, length, Ok}
use Rattle.model.specs.Limits.{most_states, most_inputs, most_outputs, most_waiting, most_losses, UpTo}
use Rattle.model.specs.Table.{Table, width, Valid}
use Rattle.table.specs.Bytes.{table_of}
use Rattle.table.specs.Laws.{FirstBad}
use Rattle.table.specs.Numbers.{Tells, Alone, Among, FirstWrong}
use Rattle.table.specs.Test.{Test}
use Rattle.session.specs.Open.{then, opening, opened}

-- ONE TEST AFTER ANOTHER

-- The first that is not passed tells its number: the first, or the second after the first passed.
abbrev pub ThenTells : Type 0
ThenTells = (a b : Test) (n p q : ℕ) → Tells (then a b) n p q ↔ (Tells a n p q ⊎ ((a ≡ Ok tt) × Tells b n p q))

-- Only numbers of the two are told.
abbrev pub ThenAmong : Type 0
ThenAmong = (a b : Test) (numbers others : List ℕ) → Among numbers a → Among others b → Among (numbers ++ others) (then a b)

-- OPENING

-- The counts are right.
pub record Counted (T : Table) : Type 0 where
  pub states : UpTo most_states T.states
  pub inputs : UpTo most_inputs T.inputs
  pub outputs : UpTo most_outputs T.outputs

-- The rows are states × (inputs + outputs) bytes.
abbrev pub Sized : Table → Type 0
Sized T = length T.rows ≡ T.states * width T

-- What t, a test that begins with those of an opening, tells of the table T and the bounds B and c:
pub record TellsOpening (T : Table) (B c : ℕ) (t : Test) : Type 0 where
  -- 2 | states not 1..64 | the count
  pub states : (p q : ℕ) → Tells t 2 p q ↔ ((UpTo most_states T.states → ⊥) × Alone T.states p q)
  -- 3 | inputs or outputs not 1..16 | the first wrong count
  pub symbols : (p q : ℕ) → Tells t 3 p q ↔ (UpTo most_states T.states × FirstWrong T.inputs T.outputs p × (q ≡ 0))
  -- 1 | rows are not states × (inputs + outputs) bytes | the length
  pub rows : (p q : ℕ) → Tells t 1 p q ↔ (Counted T × (Sized T → ⊥) × Alone (length T.rows) p q)
  -- 4 | an entry is neither 255 nor below states | the first row and column, reading row by row
  pub entry : (p q : ℕ) → Tells t 4 p q ↔ (Counted T × Sized T × FirstBad T p q)
  -- 5 | B not 1..32 | B
  pub waiting : (p q : ℕ) → Tells t 5 p q ↔ (Valid T × (UpTo most_waiting B → ⊥) × Alone B p q)
  -- 6 | c not 1..8 | c
  pub losses : (p q : ℕ) → Tells t 6 p q ↔ (Valid T × UpTo most_waiting B × (UpTo most_losses c → ⊥) × Alone c p q)

abbrev pub OpeningTells : Type 0
OpeningTells = (rows : List ℕ) (s i o B c : ℕ) → TellsOpening (table_of rows s i o) B c (opening rows s i o B c)

-- Opening: 2, 3, 1, 4, 5, 6, and no other number.
abbrev pub opening_numbers : List ℕ
opening_numbers = 2 ∷ 3 ∷ 1 ∷ 4 ∷ 5 ∷ 6 ∷ []

abbrev pub OpeningAmong : Type 0
OpeningAmong = (rows : List ℕ) (s i o B c : ℕ) → Among opening_numbers (opening rows s i o B c)

-- An opened session's test is this one.
abbrev pub OpenedTest : Type 0
OpenedTest = (rows : List ℕ) (s i o B c : ℕ) → (opened rows s i o B c).test ≡ opening rows s i o B c
