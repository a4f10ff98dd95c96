-- What is shown of whole runs, each under one sentence. proofs/Laws.antt proves them all. Assumes nothing.
use Rattle.std.specs.Prelude.{◌≡◌, List, [], ◌++◌, ◌↔◌, ℕ, suc, ◌+◌, ◌*◌, ◌^◌, ◌≤◌, ◌<◌, length, get_or, take as first, Option, None, Ok}
use Rattle.model.specs.Limits.{most_events}
use Rattle.model.specs.Model.{box, events, Set, Plausible, Empty}
use Rattle.model.specs.Demands.{Slack, Later}
use Rattle.table.specs.Bytes.{table_of, symbol_of}
use Rattle.states.specs.In.{In}
use Rattle.session.specs.declared.Session.{Session}
use Rattle.run.specs.Ran.{Ran, flag_of}
use Rattle.session.specs.Sets.{Holds}
use Rattle.session.specs.Open.{opening, begun}
use Rattle.session.specs.Session.{place_of}
use Rattle.monitor.specs.Laws.{FedAll}
use Rattle.run.specs.Run.{buffer_test, run_test, Lowest, Highest, StateOf, WaitingOf, RunOf, number, eight, Line, At, RunTo, Runs}
use Rattle.run.specs.Trace.{empty_line}

-- THE TESTS

-- A trace that a run takes under a table's counts: no longer than the limit, and of valid events.
pub record GoodTrace (trace : List ℕ) (i o : ℕ) : Type 0 where
  pub few : length trace ≤ most_events
  pub valid : (k : ℕ) → k < length trace → symbol_of (get_or trace k 0) i o ≡ None → ⊥

-- A run is refused exactly when its opening would be, its trace is not good, or its buffer is too short.
abbrev pub RunPasses : Type 0
RunPasses =
    (rows : List ℕ) (s i o B c : ℕ) (trace : List ℕ) (room : ℕ)
    → run_test rows s i o B c trace room ≡ Ok tt ↔ ((opening rows s i o B c ≡ Ok tt) × GoodTrace trace i o × (12 * length trace ≤ room))

-- Where all else is good, only the buffer decides.
abbrev pub RoomDecides : Type 0
RoomDecides =
    (rows : List ℕ) (s i o B c : ℕ) (trace : List ℕ) (room : ℕ) → opening rows s i o B c ≡ Ok tt → GoodTrace trace i o
    → run_test rows s i o B c trace room ≡ buffer_test (length trace) room

-- THE RUN

-- A set has one line.
abbrev pub OneLine : Type 1
OneLine = (S : Set ℕ) (l l' : List ℕ) → Line S l → Line S l' → l ≡ l'

-- Any two answers that a run may give are equal, and so is the memory that they leave.
abbrev pub OneRun : Type 0
OneRun =
    (rows : List ℕ) (s i o B c : ℕ) (trace before : List ℕ) (r r' : Ran) (after after' : List ℕ) → Runs rows s i o B c trace before r after
    → Runs rows s i o B c trace before r' after' → (r ≡ r') × (after ≡ after')

-- A run and feeding agree event by event: the bytes of event k are the line of the session fed so far; and so does the flag.
pub record Agree (rows : List ℕ) (s i o B c : ℕ) (trace after : List ℕ) (f : Option ℕ) : Type 0 where
  pub lines : (k : ℕ) (t : Session) → k < length trace → FedAll (begun rows s i o B c) (first (suc k) trace) t → (line : List ℕ) × Line (Holds t.set) line × At (12 * k) line after
  pub flag : (t : Session) → FedAll (begun rows s i o B c) trace t → t.flag ≡ f

abbrev pub RunsAsFed : Type 0
RunsAsFed =
    (rows : List ℕ) (s i o B c : ℕ) (trace before after : List ℕ) (f : Option ℕ) → opening rows s i o B c ≡ Ok tt
    → RunTo rows s i o B c trace before after f → Agree rows s i o B c trace after f

-- THE BYTES WRITTEN

-- A number of 64 bits and its eight bytes settle each other.
abbrev pub NumberRead : Type 0
NumberRead = (m : ℕ) (rest : List ℕ) → m < 2 ^ 64 → eight (number m ++ rest) 0 ≡ m

-- What the twelve bytes from a place on say of a set: bit s for state s; least and most waiting; least and most run.
pub record Twelve (S : Set ℕ) (bytes : List ℕ) (place : ℕ) : Type 0 where
  pub states : (q : ℕ) → In q (eight bytes place) ↔ StateOf S q
  pub least_waiting : Lowest (WaitingOf S) (get_or bytes (place + 8) 0)
  pub most_waiting : Highest (WaitingOf S) (get_or bytes (place + 9) 0)
  pub least_run : Lowest (RunOf S) (get_or bytes (place + 10) 0)
  pub most_run : Highest (RunOf S) (get_or bytes (place + 11) 0)

-- The bytes of event k say the plausible set after k + 1 events.
abbrev pub BytesSay : Type 0
BytesSay =
    (rows : List ℕ) (s i o B c : ℕ) (trace before after : List ℕ) (f : Option ℕ) → opening rows s i o B c ≡ Ok tt
    → RunTo rows s i o B c trace before after f → (k : ℕ) → k < length trace
    → Twelve (Plausible (box (table_of rows s i o)) B c (events (first (suc k) trace))) after (12 * k)

-- With an empty set, and with no other, the number is 0 and the four bytes are 255.
abbrev pub EmptySet : Type 0
EmptySet =
    (rows : List ℕ) (s i o B c : ℕ) (trace before after : List ℕ) (f : Option ℕ) → opening rows s i o B c ≡ Ok tt
    → RunTo rows s i o B c trace before after f → (k : ℕ) → k < length trace
    → Empty (box (table_of rows s i o)) B c (events (first (suc k) trace)) ↔ At (12 * k) empty_line after

-- An empty trace writes nothing and is not flagged.
abbrev pub EmptyTrace : Type 0
EmptyTrace =
    (rows : List ℕ) (s i o B c : ℕ) (before after : List ℕ) (r : Ran) → Runs rows s i o B c [] before r after
    → (after ≡ before) × (flag_of r ≡ None)

-- DEMAND 3 FOR RUNS

-- Of what the bytes from a place on say, those from another place on say no less: no least is more, and no most is less.
pub record Spans (bytes : List ℕ) (place : ℕ) (bytes' : List ℕ) (place' : ℕ) : Type 0 where
  pub least_waiting : get_or bytes' (place' + 8) 0 ≤ get_or bytes (place + 8) 0
  pub most_waiting : get_or bytes (place + 9) 0 ≤ get_or bytes' (place' + 9) 0
  pub least_run : get_or bytes' (place' + 10) 0 ≤ get_or bytes (place + 10) 0
  pub most_run : get_or bytes (place + 11) 0 ≤ get_or bytes' (place' + 11) 0

-- Allowing more, each state in the bytes of event k is in those of event k', which it became. With j zero its waiting count and loss run
-- are plausible too, so what lay between least and most still does, unless there was nothing: then the four were 255.
pub record KeptBytes (j : ℕ) (after : List ℕ) (k : ℕ) (after' : List ℕ) (k' : ℕ) : Type 0 where
  pub states : (q : ℕ) → In q (eight after (12 * k)) → In q (eight after' (12 * k'))
  pub same : j ≡ 0 → 0 < eight after (12 * k) → Spans after (12 * k) after' (12 * k')

-- Demand 3 for runs, of the bytes written and of the flag told.
abbrev pub RunsAllowMore : Type 0
RunsAllowMore =
    (rows rows' : List ℕ) (s i o s' i' o' B c B' c' j : ℕ) (trace trace' before before' after after' : List ℕ) (f f' : Option ℕ)
    → opening rows s i o B c ≡ Ok tt → opening rows' s' i' o' B' c' ≡ Ok tt → RunTo rows s i o B c trace before after f
    → RunTo rows' s' i' o' B' c' trace' before' after' f'
    → ((k k' : ℕ) → k < length trace → k' < length trace'
    → Slack (table_of rows s i o) (table_of rows' s' i' o') B c B' c' j (events (first (suc k) trace)) (events (first (suc k') trace'))
    → KeptBytes j after k after' k')
    × (Slack (table_of rows s i o) (table_of rows' s' i' o') B c B' c' j (events trace) (events trace')
    → Later i j (events trace) (events trace') (place_of f) (place_of f'))
