use Rattle.std.specs.Io.KnownBytes.{Appends}
use Rattle.lister.specs.Listing.{joined, piece_of}
use Rattle.lister.proofs.say_all.Given as goal

abbrev pub invariant-loop-k : goal.invariant-loop-k
invariant-loop-k g l =
    Appends (g.W.Write.contents l.initial.output) (g.W.Write.contents l.output)
    (joined (piece_of l.listing.judged l.listing.length l.listing.events.now l.listing.results.now) l.k)
