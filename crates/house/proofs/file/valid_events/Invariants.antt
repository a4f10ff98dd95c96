use Rattle.std.proofs.Common.{◌≡◌, ℕ, length}
use Rattle.block.specs.Limits.{event_kind}
use Rattle.house.specs.File.{joined, events_of}
use Rattle.house.proofs.Events.{Clean}
use Rattle.house.proofs.Files.{Walked}
use Rattle.house.proofs.file.valid_events.Given as goal

abbrev pub invariant-loop-b : goal.invariant-loop-b
invariant-loop-b l =
    (k : ℕ)
    × Walked l.file l.b-iterator.rest.now l.b-iterator.size k
    × (l.at ≡ length (joined event_kind l.file k))
    × Clean l.inputs l.outputs (events_of l.file) l.at
