use mathlib.Core.Path.{◌≡◌}
use Prim.Native.Nat.{◌*◌, ◌≤◌}
use lib.ListN.{length}
use Rattle.lent.specs.Lent.{front}
use Rattle.lines.specs.Texts.{most_text}
use Rattle.lister.specs.Listing.{joined, piece_of}
use Rattle.lister.proofs.whole.put_all.Given as goal

abbrev pub invariant-loop-k : goal.invariant-loop-k
invariant-loop-k l =
    let text = piece_of l.listing.judged l.listing.length l.listing.events.now l.listing.results.now in
    record {
      bytes : l.at ≡ length (joined text l.k);
      memory : l.out ≡ front l.initial.out (joined text l.k);
      same_length : length l.out ≡ length l.initial.out;
      short : l.at ≤ most_text * l.k;
    }
