-- `writer::place` meets its contract. Assumes nothing.
use Rattle.writer.proofs.Placing.{no_room, placed}
use Rattle.writer.proofs.place.Goals as goal

pub returns-then-out-n : goal.returns-then-out-n
returns-then-out-n c =
    no_room c.args.c c.args.rows.now c.args.trace.now c.args.out.now _ c.needed-n.ensures c.requires.counted c.requires.good_contents c.if-out-n.true

pub returns : goal.returns
returns c =
    placed c.args.c c.args.rows.now c.args.trace.now c.args.out.now _ c.needed-n.ensures c.requires.counted c.requires.good_contents _
    c.if-out-n.false c.lay.ensures
