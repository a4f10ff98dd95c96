-- `layout::put_bytes` meets its contract. Assumes nothing.
use mathlib.Core.Path.{◌≡◌}
use lib.ListN.{length}
use Rattle.sessiondoors.proofs.Layouts.{bytes_put}
use borrow.Author.Rules.{rules}
use Rattle.sessiondoors.proofs.layout.put_bytes.Goals as goal

pub returns : goal.returns
returns c =
    let s = c.args.s.now in
    let n : length s.rows ≡ 2048 = search rules in
    let m : length s.held ≡ 32 = search rules in
    bytes_put c.args.bytes.now _ _ _ s c.requires n m c.put.ensures c.put-2.ensures c.put-3.ensures
