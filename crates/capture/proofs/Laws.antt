-- Every statement of specs/Laws.antt, proved, under one roof: other crates take the laws from here. Assumes nothing.
use mathlib.Core.Path.{ap, ◌∙◌}
use native.Mathlib.Omega.{arith}
use Rattle.capture.specs.Capture.{records, of_layout}
use Rattle.capture.specs.Laws.{Reversed, HeaderPasses, OrderTold, RecordPasses, LayoutIs, LayoutValid, OneEach, AllOfLayout, TakesExactly, InOrder, ExactlyTheEvents, ComesToItsEnd, LeftThere, ImportsExactly, OneImport, NothingWritten, WhatIsWritten, ReadAsImported, ImportedAsRead, TakenAlike, ImportedAlike, EachRead}
use Rattle.capture.proofs.Fields
use Rattle.capture.proofs.Handing
use Rattle.capture.proofs.Importing
use Rattle.capture.proofs.Records.{octets_length, octets_at}
use Rattle.capture.proofs.Alike
use Rattle.capture.proofs.Settled

-- The bytes.
pub reversed : Reversed
reversed = Fields.reversed

pub header_passes : HeaderPasses
header_passes = Fields.header_passes

pub order_told : OrderTold
order_told = Fields.order_told

pub record_passes : RecordPasses
record_passes = Fields.record_passes

pub layout_is : LayoutIs
layout_is = Fields.layout_is

pub layout_valid : LayoutValid
layout_valid = Fields.layout_valid

pub one_each : OneEach
one_each s = (octets_length s (records s), octets_at s (records s))

pub all_of_layout : AllOfLayout
all_of_layout s g k l =
    let m = one_each s in
    let h = m.0 in
    ap of_layout (m.1 k (omega arith)) ∙ g.layout k (omega arith)

-- The reader.
pub takes_exactly : TakesExactly
takes_exactly = Handing.takes_exactly

pub in_order : InOrder
in_order = Handing.in_order

pub exactly_the_events : ExactlyTheEvents
exactly_the_events = Handing.exactly_the_events

pub comes_to_its_end : ComesToItsEnd
comes_to_its_end = Handing.comes_to_its_end

pub left_there : LeftThere
left_there = Handing.left_there

-- The import.
pub imports_exactly : ImportsExactly
imports_exactly = Importing.imports_exactly

pub one_import : OneImport
one_import = Importing.one_import

pub nothing_written : NothingWritten
nothing_written = Importing.nothing_written

pub what_is_written : WhatIsWritten
what_is_written = Importing.what_is_written

-- The two agree.
pub read_as_imported : ReadAsImported
read_as_imported = Importing.read_as_imported

pub imported_as_read : ImportedAsRead
imported_as_read = Importing.imported_as_read

-- The fields.
pub taken_alike : TakenAlike
taken_alike = Alike.taken_alike

pub imported_alike : ImportedAlike
imported_alike = Alike.imported_alike

pub each_read : EachRead
each_read = Settled.each_read
