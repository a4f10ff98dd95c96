-- Document 01, "Numbers for what is turned away", in the document's figures: which number is given when, and what is told with it. All is
-- said over `told`, so that it does not matter what the refusals are called. proofs/Numbers.antt proves the laws. Assumes nothing.
use Rattle.std.specs.Prelude.{◌≡◌, Bool, true, false, ◌↔◌, ◌⊎◌, ℕ, ◌+◌, ◌*◌, ◌≤◌, ◌<◌, length, get_or, Option, Some, None, Ok, Err}
use mathlib.Core.List.{List, [], ◌∷◌, Memᴰ as In}
use Rattle.model.specs.Limits.{most_states, most_inputs, most_outputs, most_waiting, most_losses, UpTo}
use Rattle.model.specs.Table.{Table}
use Rattle.model.specs.Model.{Event, input, output, event}
use Rattle.table.specs.Bytes.{symbol_of}
use Rattle.table.specs.Refusals.{told}
use Rattle.table.specs.Tests.{must, counts_test, length_test, entries_test, bounds_test, events_test}
use Rattle.table.specs.Laws.{FirstBad}
use Rattle.table.specs.declared.answer.Refusal.{Refusal}
use Rattle.table.specs.Test.{Test}
use Rattle.table.specs.declared.answer.Told.{Told}

-- WHAT IS TOLD

-- What a test tells: nothing, where it passes.
abbrev pub told_of : Test → Option Told
told_of (Ok _) = None
told_of (Err r) = Some (told r)

-- A refusal is a number with its place: the test is refused, and tells this number, this place and this second place.
pub record Tells (t : Test) (n p q : ℕ) : Type 0 where
  pub is : told_of t ≡ Some (record { number = n; place = p; second = q })

-- Places not used or not named are 0: of the place p and the second place q only x is told.
abbrev pub Alone : ℕ → ℕ → ℕ → Type 0
Alone x p q = (p ≡ x) × (q ≡ 0)

-- A refusal is given only in the cases listed: no number but these is told.
abbrev pub Among : List ℕ → Test → Type 0
Among numbers t = (n p q : ℕ) → Tells t n p q → In n numbers

-- A test passes or tells a number,
abbrev pub PassesOrTells : Type 0
PassesOrTells = (t : Test) → (t ≡ Ok tt) ⊎ ((n : ℕ) × (p : ℕ) × (q : ℕ) × Tells t n p q)

-- not both,
abbrev pub PassedTellsNone : Type 0
PassedTellsNone = (n p q : ℕ) → Tells (Ok tt) n p q → ⊥

-- and one number with one pair of places.
abbrev pub OneTold : Type 0
OneTold = (t : Test) (n p q n' p' q' : ℕ) → Tells t n p q → Tells t n' p' q' → (n ≡ n') × (p ≡ p') × (q ≡ q')

-- Of one test before others: it fails and tells its own number, or it holds and the others tell theirs.
abbrev pub MustTells : Type 0
MustTells =
    (b : Bool) (r : Refusal) (t : Test) (n p q : ℕ)
    → Tells (must b r t) n p q ↔ (((b ≡ false) × Tells (Err r) n p q) ⊎ ((b ≡ true) × Tells t n p q))

-- THE COUNTS

-- 2 | states not 1..64 | the count
abbrev pub StatesTold : Type 0
StatesTold = (s i o p q : ℕ) → Tells (counts_test s i o) 2 p q ↔ ((UpTo most_states s → ⊥) × Alone s p q)

-- The first wrong count, of inputs and outputs.
abbrev pub FirstWrong : ℕ → ℕ → ℕ → Type 0
FirstWrong i o x = ((UpTo most_inputs i → ⊥) × (x ≡ i)) ⊎ (UpTo most_inputs i × (UpTo most_outputs o → ⊥) × (x ≡ o))

-- 3 | inputs or outputs not 1..16 | the first wrong count
abbrev pub SymbolsTold : Type 0
SymbolsTold = (s i o p q : ℕ) → Tells (counts_test s i o) 3 p q ↔ (UpTo most_states s × FirstWrong i o p × (q ≡ 0))

abbrev pub CountsAmong : Type 0
CountsAmong = (s i o : ℕ) → Among (2 ∷ 3 ∷ []) (counts_test s i o)

-- THE ROWS

-- 1 | rows are not states × (inputs + outputs) bytes | the length
abbrev pub RowsTold : Type 0
RowsTold = (n s i o p q : ℕ) → Tells (length_test n s i o) 1 p q ↔ ((n ≡ s * (i + o) → ⊥) × Alone n p q)

abbrev pub LengthAmong : Type 0
LengthAmong = (n s i o : ℕ) → Among (1 ∷ []) (length_test n s i o)

-- 4 | an entry is neither 255 nor below states | the first row and column, reading row by row
abbrev pub EntryTold : Type 0
EntryTold = (T : Table) (p q : ℕ) → Tells (entries_test T) 4 p q ↔ FirstBad T p q

abbrev pub EntriesAmong : Type 0
EntriesAmong = (T : Table) → Among (4 ∷ []) (entries_test T)

-- THE BOUNDS

-- 5 | B not 1..32 | B
abbrev pub WaitingTold : Type 0
WaitingTold = (B c p q : ℕ) → Tells (bounds_test B c) 5 p q ↔ ((UpTo most_waiting B → ⊥) × Alone B p q)

-- 6 | c not 1..8 | c
abbrev pub LossesTold : Type 0
LossesTold = (B c p q : ℕ) → Tells (bounds_test B c) 6 p q ↔ (UpTo most_waiting B × (UpTo most_losses c → ⊥) × Alone c p q)

abbrev pub BoundsAmong : Type 0
BoundsAmong = (B c : ℕ) → Among (5 ∷ 6 ∷ []) (bounds_test B c)

-- THE EVENTS

-- An event is valid if a is below the table's count of that direction.
abbrev pub IsValid : ℕ → ℕ → Event → Type 0
IsValid inputs outputs (input a) = a < inputs
IsValid inputs outputs (output a) = a < outputs

-- Event k of a trace is the first that is not valid.
pub record FirstNotValid (trace : List ℕ) (inputs outputs k : ℕ) : Type 0 where
  pub inside : k < length trace
  pub not_valid : IsValid inputs outputs (event (get_or trace k 0)) → ⊥
  pub before : (j : ℕ) → j < k → IsValid inputs outputs (event (get_or trace j 0))

abbrev pub AllValid : List ℕ → ℕ → ℕ → Type 0
AllValid trace inputs outputs = (k : ℕ) → k < length trace → IsValid inputs outputs (event (get_or trace k 0))

-- 7 | event byte not valid | event index
abbrev pub IndexTold : Type 0
IndexTold =
    (trace : List ℕ) (i o p q : ℕ) → i ≤ most_inputs → o ≤ most_outputs
    → Tells (events_test trace i o) 7 p q ↔ (FirstNotValid trace i o p × (q ≡ 0))

abbrev pub EventsAmong : Type 0
EventsAmong = (trace : List ℕ) (i o : ℕ) → Among (7 ∷ []) (events_test trace i o)

-- A trace passes exactly when all its events are valid.
abbrev pub TracePasses : Type 0
TracePasses = (trace : List ℕ) (i o : ℕ) → i ≤ most_inputs → o ≤ most_outputs → events_test trace i o ≡ Ok tt ↔ AllValid trace i o

-- An event byte is refused exactly when its event is not valid.
abbrev pub InvalidByte : Type 0
InvalidByte = (b i o : ℕ) → i ≤ most_inputs → o ≤ most_outputs → symbol_of b i o ≡ None ↔ (IsValid i o (event b) → ⊥)
