-- Every statement of specs/Laws.antt, proved, under one roof: other crates take the laws from here. Assumes nothing.
use Rattle.run.specs.Laws.{RunPasses, RoomDecides, OneLine, OneRun, RunsAsFed, NumberRead, BytesSay, EmptySet, EmptyTrace, RunsAllowMore}
use Rattle.run.specs.Numbers.{RunTells, RanTest}
use Rattle.run.proofs.Numbers
use Rattle.run.proofs.Passing
use Rattle.run.proofs.Bytes
use Rattle.run.proofs.Whole
use Rattle.run.proofs.Written

-- The tests.
pub run_passes : RunPasses
run_passes = Passing.run_passes

pub room_decides : RoomDecides
room_decides = Passing.room_decides

pub run_tells : RunTells
run_tells = Numbers.run_tells

pub ran_test : RanTest
ran_test = Numbers.ran_test

-- The run.
pub one_line : OneLine
one_line = Whole.one_line

pub one_run : OneRun
one_run = Whole.one_run

pub runs_as_fed : RunsAsFed
runs_as_fed = Whole.runs_as_fed

-- The bytes written.
pub number_read : NumberRead
number_read = Bytes.number_read

pub bytes_say : BytesSay
bytes_say = Written.bytes_say

pub empty_set : EmptySet
empty_set = Written.empty_set

pub empty_trace : EmptyTrace
empty_trace = Written.empty_trace

-- Demand 3.
pub runs_allow_more : RunsAllowMore
runs_allow_more = Written.runs_allow_more
