-- `say_all` meets its contract: the pieces passed stand in the writer. Assumes nothing.
use mathlib.Core.Path.{◌≡◌, ◌∙◌}
use native.Mathlib.Omega.{arith}
use Rattle.lister.specs.Listing.{piece_of, pieces_of}
use Rattle.lister.proofs.Joined.{pieces_joined}
use Rattle.lister.proofs.Writing.{appends_none, appends_next}
use Rattle.lister.proofs.say_all.Goals as goal

pub loop-k-init : goal.loop-k-init
loop-k-init g c =
    let a = c.args.listing.now in
    appends_none (piece_of a.judged a.length a.events.now a.results.now) (g.W.Write.contents c.args.output.now)

pub loop-k-preserved : goal.loop-k-preserved
loop-k-preserved g c =
    let a = c.args.listing.now in
    appends_next (piece_of a.judged a.length a.events.now a.results.now) c.loop-k.k _ _ _
    (c.as_bytes.ensures.value ∙ c.piece.ensures) c.loop-k.invariant c.in_ok-put.ensures

pub returns : goal.returns
returns g c =
    let a = c.args.listing.now in
    let full : c.loop-k.k ≡ pieces_of a.judged = omega arith in
    rw (full, pieces_joined a.judged a.length a.events.now a.results.now) at c.loop-k.invariant
