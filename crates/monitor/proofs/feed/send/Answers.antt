use Rattle.monitor.proofs.Feeding.{sent_to, moved_from}
use Rattle.monitor.proofs.feed.send.Goals as goal

pub returns : goal.returns
returns c =
    let d = c.sent.ensures in
    sent_to _ c.requires.0 d.long _ _ _ _ c.requires.2 c.held_count-n.ensures d (moved_from c.args.s.now _ _ _ _ c.moved_on.ensures)
