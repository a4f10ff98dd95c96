-- Document 01: opening a session, for every input. Assumes nothing.
use Rattle.std.specs.Prelude.{List, ◌++◌, ℕ, length, take, drop, set, replicate, None, Ok, Err}
use Rattle.table.specs.Bytes.{table_of}
use Rattle.table.specs.Tests.{counts_test, length_test, entries_test, bounds_test}
use Rattle.table.specs.Test.{Test}
use Rattle.session.specs.declared.Session.{Session}
use Rattle.session.specs.declared.Opened.{Opened}

-- n zeros, of which the first places are given to the bytes
unfoldable pub zeros : ℕ → List ℕ
zeros n = replicate n 0

unfoldable pub padded : ℕ → List ℕ → List ℕ
padded n l = take n l ++ drop (length l) (zeros n)

-- A session of zeros only.
unfoldable pub zero_session : Session
zero_session =
    record {
      states = 0;
      inputs = 0;
      outputs = 0;
      rows = zeros 2048;
      waiting = 0;
      losses = 0;
      set = zeros 264;
      held = zeros 32;
      events = 0;
      arrived = 0;
      flag = None;
    }

-- An opened session has the one configuration (0,0,0), counts 0 and no flag.
unfoldable pub begun : List ℕ → ℕ → ℕ → ℕ → ℕ → ℕ → Session
begun rows s i o B c =
    record {
      states = s;
      inputs = i;
      outputs = o;
      rows = padded 2048 rows;
      waiting = B;
      losses = c;
      set = set (zeros 264) 0 1;
      held = zeros 32;
      events = 0;
      arrived = 0;
      flag = None;
    }

-- One test after another: the first that is not passed refuses.
abbrev pub then : Test → Test → Test
then (Ok _) t = t
then (Err r) t = Err r

-- Order. Opening: 2, 3, and then, of counts that are right, 1, 4, 5, 6.
abbrev pub counted : List ℕ → ℕ → ℕ → ℕ → ℕ → ℕ → Test
counted rows s i o B c = then (length_test (length rows) s i o) (then (entries_test (table_of rows s i o)) (bounds_test B c))

unfoldable pub opening : List ℕ → ℕ → ℕ → ℕ → ℕ → ℕ → Test
opening rows s i o B c = then (counts_test s i o) (counted rows s i o B c)

-- A refused opening returns a session of zeros only.
abbrev pub with_session : Test → Session → Opened
with_session (Ok _) s = record { test = Ok tt; session = s }
with_session (Err r) s = record { test = Err r; session = zero_session }

unfoldable pub opened : List ℕ → ℕ → ℕ → ℕ → ℕ → ℕ → Opened
opened rows s i o B c = with_session (opening rows s i o B c) (begun rows s i o B c)
