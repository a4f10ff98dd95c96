-- `whole::put_all` meets its contract: the pieces passed stand at the start. Assumes nothing.
use mathlib.Core.Path.{◌≡◌, refl, sym, ap, ◌∙◌}
use native.Mathlib.Omega.{arith}
use lib.ListN.{length}
use borrow.Author.Rules.{rules}
use Rattle.lister.specs.Listing.{piece_of, pieces_of}
use Rattle.lister.proofs.Joined.{joined_none}
use Rattle.lister.proofs.Putting.{length_next, put_next}
use Rattle.lister.proofs.whole.put_all.Goals as goal

pub loop-k-init : goal.loop-k-init
loop-k-init c =
    let a = c.args.listing.now in
    let none = joined_none (piece_of a.judged a.length a.events.now a.results.now) in
    record { bytes = ap length (sym none); memory = rw none; same_length = refl; short = search rules }

pub loop-k-preserved : goal.loop-k-preserved
loop-k-preserved c =
    let a = c.args.listing.now in
    let text = piece_of a.judged a.length a.events.now a.results.now in
    let is = c.as_bytes.ensures.value ∙ c.piece-piece.ensures in
    let long = ap length (c.as_bytes-in-loop-k.ensures.value ∙ sym c.as_bytes.ensures.value) in
    let few = c.as_bytes.ensures.fits in
    record {
      bytes = omega (arith, c.loop-k.invariant.bytes, length_next text c.loop-k.k _ is, long);
      memory = put_next text c.loop-k.k _ is c.args.out.now c.loop-k.out _ c.loop-k.at c.loop-k.invariant.bytes c.loop-k.invariant.memory
          (omega (arith, c.loop-k.invariant.short, few, c.loop-k-test.true, c.requires.room.0, c.requires.room.1)) c.put.ensures;
      same_length = omega (arith, c.loop-k.invariant.same_length);
      short = omega (arith, c.loop-k.invariant.short, few, long);
    }

pub returns : goal.returns
returns c =
    let l = c.loop-k in
    let full : l.k ≡ pieces_of c.args.listing.now.judged = omega arith in
    record {
      memory = rw full at l.invariant.memory;
      bytes = rw full at l.invariant.bytes;
      fits = omega (arith, l.invariant.short, full, c.requires.room.0);
    }
