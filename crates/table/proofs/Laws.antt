-- Every statement of specs/Laws.antt and specs/Numbers.antt, proved, under one roof: other crates take the laws from here. Assumes nothing.
use mathlib.Core.Path.{refl}
use Rattle.table.specs.Refusals.{told}
use Rattle.table.specs.Laws.{FoundNone, FoundFirst, MustPasses, CountsPass, LengthPasses, EntriesPass, FirstTold, TablePasses, BoundsPass, EventsPass, FirstInvalid, SymbolMeans, GivenMeans, NextMeans, EventTold}
use Rattle.table.specs.Numbers.{PassesOrTells, PassedTellsNone, OneTold, MustTells, StatesTold, SymbolsTold, CountsAmong, RowsTold, LengthAmong, EntryTold, EntriesAmong, WaitingTold, LossesTold, BoundsAmong, IndexTold, EventsAmong, TracePasses, InvalidByte}
use Rattle.table.proofs.First
use Rattle.table.proofs.Passing
use Rattle.table.proofs.Rows
use Rattle.table.proofs.Traces
use Rattle.table.proofs.Symbols
use Rattle.table.proofs.Bytes
use Rattle.table.proofs.Numbers

-- The first.
pub found_none : FoundNone
found_none = First.found_none

pub found_first : FoundFirst
found_first = First.found_first

-- The tests.
pub must_passes : MustPasses
must_passes = Passing.must_passes

pub counts_pass : CountsPass
counts_pass = Passing.counts_pass

pub length_passes : LengthPasses
length_passes = Passing.length_passes

pub entries_pass : EntriesPass
entries_pass = Rows.entries_pass

pub first_told : FirstTold
first_told = Rows.first_told

pub table_passes : TablePasses
table_passes T = (
  λ (p, q, r).
      let (s, i, o) = (counts_pass T.states T.inputs T.outputs).0 p in
      record {
        states = s;
        inputs = i;
        outputs = o;
        rows = (length_passes _ T.states T.inputs T.outputs).0 q;
        entries = (entries_pass T).0 r;
      },
  λ v. (
    (counts_pass T.states T.inputs T.outputs).1 (v.states, v.inputs, v.outputs),
    (length_passes _ T.states T.inputs T.outputs).1 v.rows,
    (entries_pass T).1 v.entries,
  ),
)

pub bounds_pass : BoundsPass
bounds_pass = Passing.bounds_pass

pub events_pass : EventsPass
events_pass = Traces.events_pass

pub first_invalid : FirstInvalid
first_invalid = Traces.first_invalid

-- The bytes.
pub symbol_means : SymbolMeans
symbol_means = Symbols.symbol_means

pub given_means : GivenMeans
given_means = Symbols.given_means

pub next_means : NextMeans
next_means = Bytes.next_means

-- The refusals.
pub event_told : EventTold
unfolding told
event_told index = refl

-- The numbers.
pub passes_or_tells : PassesOrTells
passes_or_tells = Numbers.passes_or_tells

pub passed_tells_none : PassedTellsNone
passed_tells_none = Numbers.passed_tells_none

pub one_told : OneTold
one_told = Numbers.one_told

pub must_tells : MustTells
must_tells = Numbers.must_tells

pub states_told : StatesTold
states_told = Numbers.states_told

pub symbols_told : SymbolsTold
symbols_told = Numbers.symbols_told

pub counts_among : CountsAmong
counts_among = Numbers.counts_among

pub rows_told : RowsTold
rows_told = Numbers.rows_told

pub length_among : LengthAmong
length_among = Numbers.length_among

pub entry_told : EntryTold
entry_told = Numbers.entry_told

pub entries_among : EntriesAmong
entries_among = Numbers.entries_among

pub waiting_told : WaitingTold
waiting_told = Numbers.waiting_told

pub losses_told : LossesTold
losses_told = Numbers.losses_told

pub bounds_among : BoundsAmong
bounds_among = Numbers.bounds_among

pub index_told : IndexTold
index_told = Numbers.index_told

pub events_among : EventsAmong
events_among = Numbers.events_among

pub trace_passes : TracePasses
trace_passes = Numbers.trace_passes

pub invalid_byte : InvalidByte
invalid_byte = Numbers.invalid_byte
