use Rattle.monitor.proofs.Feeding.{arrived_to, moved_from}
use Rattle.monitor.proofs.feed.arrive.Goals as goal

pub returns : goal.returns
returns c =
    let a = rw c.from-most.ensures at c.arrived.ensures in
    arrived_to _ c.requires.0 a.long _ c.requires.2 _ _ _ _ _ c.held_count-n.ensures a (moved_from c.args.s.now _ _ _ _ c.moved_on.ensures)
