use Rattle.lines.proofs.Building.{adds_then}
use borrow.Author.Tests.{lt-ltb, le-ltb}
use Rattle.lines.proofs.push_symbol.Goals as goal

pub returns-then-b-lt128 : goal.returns-then-b-lt128
returns-then-b-lt128 c =
    rw (lt-ltb _ 128 c.if-b-lt128.true)
    (adds_then c.push.ensures (adds_then c.push-then-b-lt128.ensures (rw c.from.ensures at c.push_decimal.ensures)))

pub returns-else-b-lt128 : goal.returns-else-b-lt128
returns-else-b-lt128 c =
    rw (le-ltb _ 128 c.if-b-lt128.false)
    (adds_then c.push.ensures
    (adds_then c.push-else-b-lt128.ensures (rw c.from-else-b-lt128.ensures at c.push_decimal-else-b-lt128.ensures)))
