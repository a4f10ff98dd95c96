-- `mend` meets its contract. Assumes nothing.
use mathlib.Core.Path.{sym, ap, ◌∙◌}
use Prim.Native.Nat.{◌<◌}
use native.Mathlib.Omega.{arith}
use borrow.Author.Tests.{lt-leb}
use Rattle.writer.specs.Layout.{spelling}
use Rattle.writer.proofs.Blocks.{spelt_so}
use Rattle.remake.specs.Mending.{broken, short}
use Rattle.remake.proofs.Mending.{mended_by}
use Rattle.remake.proofs.mend.Goals as goal

pub returns-then-not-whole : goal.returns-then-not-whole
returns-then-not-whole c = broken (sym c.whole.ensures ∙ c.if-not-whole.true)

pub returns-then-out-n : goal.returns-then-out-n
returns-then-out-n c =
    short (sym c.whole.ensures ∙ c.if-not-whole.false) (lt-leb _ _ c.if-out-n.true)

pub returns : goal.returns
returns c =
    let n = c.check-check.result in
    let small : n < 65536 = omega arith in
    mended_by _ _ _ _ (sym c.whole.ensures ∙ c.if-not-whole.false) c.if-out-n.false c.copy_from_slice.ensures.after
    (c.copy_from_slice-2.ensures.after ∙ c.to_le_bytes.ensures ∙ spelt_so n small ∙ ap spelling c.check-check.ensures)
