-- Document 01, "Whole run", for every input. Assumes nothing.
use Rattle.std.specs.Prelude.{◌≡◌, List, [], ◌∷◌, ◌++◌, ◌↔◌, ℕ, suc, ◌+◌, ◌*◌, ◌/◌, ◌%◌, ◌≤◌, ◌<◌, leb, length, get_or, take as first, Option, Ok, Err}
use Rattle.model.specs.Limits.{most_events}
use Rattle.model.specs.Model.{box, events, Config, Set, Plausible, FlagIs}
use Rattle.table.specs.Bytes.{table_of}
use Rattle.table.specs.Tests.{must, events_test}
use Rattle.table.specs.declared.answer.Refusal.{Refusal}
use Rattle.table.specs.declared.answer.Refusal.TheVariants as refusal
use Rattle.table.specs.Test.{Test}
use Rattle.states.specs.In.{In}
use Rattle.run.specs.Ran.{Ran}
use Rattle.session.specs.Open.{then, opening}
use Rattle.session.specs.Session.{place_of}

-- THE TESTS

-- 9: events past the limit, 1,048,576; the count.
abbrev pub limit_test : ℕ → Test
limit_test n = must (leb n most_events) (refusal.Events n) (Ok tt)

-- 10: the result buffer is shorter than 12 × events; the needed length.
abbrev pub buffer_test : ℕ → ℕ → Test
buffer_test n room = must (leb (12 * n) room) (refusal.Buffer (12 * n)) (Ok tt)

-- Whole run: as opening, then 9, 7, 10.
abbrev pub traced : List ℕ → ℕ → ℕ → ℕ → Test
traced trace i o room = then (limit_test (length trace)) (then (events_test trace i o) (buffer_test (length trace) room))

unfoldable pub run_test : List ℕ → ℕ → ℕ → ℕ → ℕ → ℕ → List ℕ → ℕ → Test
run_test rows s i o B c trace room = then (opening rows s i o B c) (traced trace i o room)

-- THE TWELVE BYTES

-- The least, and the most, of the numbers that are P; with none, 255.
pub record Lowest (P : ℕ → Type 0) (r : ℕ) : Type 0 where
  pub none : ((k : ℕ) → P k → ⊥) → r ≡ 255
  pub some : (k : ℕ) → P k → P r × (r ≤ k)

pub record Highest (P : ℕ → Type 0) (r : ℕ) : Type 0 where
  pub none : ((k : ℕ) → P k → ⊥) → r ≡ 255
  pub some : (k : ℕ) → P k → P r × (k ≤ r)

-- The states, the waiting counts and the runs of a set.
abbrev pub StateOf : Set ℕ → ℕ → Type 0
StateOf S q = (x : Config ℕ) × S x × (x.state ≡ q)

abbrev pub WaitingOf : Set ℕ → ℕ → Type 0
WaitingOf S w = (x : Config ℕ) × S x × (x.waiting ≡ w)

abbrev pub RunOf : Set ℕ → ℕ → Type 0
RunOf S r = (x : Config ℕ) × S x × (x.run ≡ r)

-- For each event 12 bytes are written: the set of plausible states as a 64-bit number, least byte first (bit s for state s),
abbrev pub number : ℕ → List ℕ
number m =
    m % 256 ∷ m / 256 % 256 ∷ m / 65536 % 256 ∷ m / 16777216 % 256 ∷ m / 4294967296 % 256 ∷ m / 1099511627776 % 256
    ∷ m / 281474976710656 % 256 ∷ m / 72057594037927936 % 256 ∷ []

-- The number that the four bytes from a place on are, least byte first; and that the eight are.
abbrev pub four : List ℕ → ℕ → ℕ
four bytes at = get_or bytes at 0 + 256 * (get_or bytes (at + 1) 0 + 256 * (get_or bytes (at + 2) 0 + 256 * get_or bytes (at + 3) 0))

abbrev pub eight : List ℕ → ℕ → ℕ
eight bytes at = four bytes at + 4294967296 * four bytes (at + 4)

-- then least and most waiting, then least and most run.
pub record Line (S : Set ℕ) (bytes : List ℕ) : Type 0 where
  pub states : ℕ
  pub least_waiting : ℕ
  pub most_waiting : ℕ
  pub least_run : ℕ
  pub most_run : ℕ
  pub states_are : (q : ℕ) → In q states ↔ StateOf S q
  pub least_waiting_is : Lowest (WaitingOf S) least_waiting
  pub most_waiting_is : Highest (WaitingOf S) most_waiting
  pub least_run_is : Lowest (RunOf S) least_run
  pub most_run_is : Highest (RunOf S) most_run
  pub bytes_are : bytes ≡ number states ++ (least_waiting ∷ most_waiting ∷ least_run ∷ most_run ∷ [])

-- THE RUN

-- The line stands from the place on, and the other bytes are as they were.
pub record Put (place : ℕ) (line before after : List ℕ) : Type 0 where
  pub size : length after ≡ length before
  pub bytes : (i : ℕ) → i < 12 → get_or after (place + i) 0 ≡ get_or line i 0
  pub below : (k : ℕ) → k < place → get_or after k 0 ≡ get_or before k 0
  pub above : (k : ℕ) → place + 12 ≤ k → get_or after k 0 ≡ get_or before k 0

-- The bytes from a place on are the line.
abbrev pub At : ℕ → List ℕ → List ℕ → Type 0
At place line bytes = (i : ℕ) → i < 12 → get_or bytes (place + i) 0 ≡ get_or line i 0

-- What a run that is not refused does: for each event k the 12 bytes of the plausible set after k + 1 events; bytes after 12 × events keep
-- their values; and the flag's place or none.
pub record RunTo (rows : List ℕ) (s i o B c : ℕ) (trace before after : List ℕ) (f : Option ℕ) : Type 0 where
  pub size : length after ≡ length before
  pub lines : (k : ℕ) → k < length trace → (line : List ℕ) × Line (Plausible (box (table_of rows s i o)) B c (events (first (suc k) trace))) line × At (12 * k) line after
  pub rest : (k : ℕ) → 12 * length trace ≤ k → get_or after k 0 ≡ get_or before k 0
  pub flag : FlagIs (box (table_of rows s i o)) B c (events trace) (place_of f)

-- The same, of a trace and a buffer that pass their tests, for every count of states with which the table passes its own.
abbrev pub Followed : List ℕ → ℕ → ℕ → ℕ → ℕ → List ℕ → List ℕ → List ℕ → Option ℕ → Type 0
Followed rows i o B c trace before after f = (s : ℕ) → opening rows s i o B c ≡ Ok tt → RunTo rows s i o B c trace before after f

-- A refused run writes nothing, tells no flag, and its other results are 0.
pub data Runs (rows : List ℕ) (s i o B c : ℕ) (trace before : List ℕ) : Ran → List ℕ → Type 0 where
  refused : {r : Refusal} → run_test rows s i o B c trace (length before) ≡ Err r → Runs rows s i o B c trace before (Err r) before
  ran : {f : Option ℕ} {after : List ℕ} → run_test rows s i o B c trace (length before) ≡ Ok tt → RunTo rows s i o B c trace before after f
      → Runs rows s i o B c trace before (Ok f) after
