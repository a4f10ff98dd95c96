-- Demand 2 reads the trace of a capture: what the monitor says of the events that were imported, or handed out one by one, it says of the
-- capture's own trace. This file alone speaks of the monitor. Assumes nothing.
use Rattle.std.specs.Prelude.{◌≡◌, List, ℕ, take, Option, Ok}
use Rattle.model.specs.Limits.{most_inputs, most_outputs}
use Rattle.table.specs.Bytes.{table_of}
use Rattle.session.specs.declared.Session.{Session}
use Rattle.session.specs.Open.{opening, begun}
use Rattle.monitor.specs.Laws.{Follows, FedAll}
use Rattle.run.specs.Run.{RunTo, Runs}
use Rattle.run.specs.Laws.{GoodTrace}
use Rattle.capture.specs.Capture.{octets, events_of, GoodCapture}
use Rattle.capture.specs.Importing.{Imports}
use Rattle.capture.specs.Laws.{HandedOut, CalledToItsEnd}

-- A run over the imported events gives after each the plausible set of the capture's trace so far, and the flag of its trace.
abbrev pub RunAsImported : Type 0
RunAsImported =
    (s d : List ℕ) (n : ℕ) (d' rows : List ℕ) (q i o B c : ℕ) (before after : List ℕ) (f : Option ℕ) → Imports s d (Ok n) d'
    → Runs rows q i o B c (take n d') before (Ok f) after → RunTo rows q i o B c (events_of s) before after f

-- A session that was fed the imported events has followed the capture's trace.
abbrev pub FedAsImported : Type 0
FedAsImported =
    (s d : List ℕ) (n : ℕ) (d' rows : List ℕ) (q i o B c : ℕ) (t : Session) → Imports s d (Ok n) d' → opening rows q i o B c ≡ Ok tt
    → FedAll (begun rows q i o B c) (take n d') t → Follows (table_of rows q i o) B c (events_of s) t

-- So has one that was fed each event as the reader handed it out, as far as the reader has come,
abbrev pub FedAsHandedOut : Type 0
FedAsHandedOut =
    (s bytes : List ℕ) (j : ℕ) (rows : List ℕ) (q i o B c : ℕ) (t : Session) → HandedOut s 0 bytes j → opening rows q i o B c ≡ Ok tt
    → FedAll (begun rows q i o B c) bytes t → Follows (table_of rows q i o) B c (octets s j) t

-- and at its end the whole trace.
abbrev pub FedAsRead : Type 0
FedAsRead =
    (s bytes : List ℕ) (j : ℕ) (rows : List ℕ) (q i o B c : ℕ) (t : Session) → CalledToItsEnd s bytes j → opening rows q i o B c ≡ Ok tt
    → FedAll (begun rows q i o B c) bytes t → Follows (table_of rows q i o) B c (events_of s) t

-- A good capture's trace is one that a run takes, under a table with as many symbols as there may be.
abbrev pub TraceTaken : Type 0
TraceTaken = (s : List ℕ) → GoodCapture s → GoodTrace (events_of s) most_inputs most_outputs
