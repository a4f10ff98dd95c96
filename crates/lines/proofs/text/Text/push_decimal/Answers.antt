use mathlib.Core.Path.{◌∙◌}
use Rattle.lines.proofs.Building.{adds_same}
use Rattle.lines.proofs.Numbers.{decimal_digits}
use borrow.Author.Rules.{rules}
use Rattle.lines.proofs.text.Text.push_decimal.Goals as goal

pub returns : goal.returns
returns c = let w = c.decimal-k.ensures in adds_same (w.digits ∙ decimal_digits _ _ (search rules) w.len) c.push_all.ensures
