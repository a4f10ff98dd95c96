use mathlib.Core.Path.{◌∙◌}
use Rattle.lines.proofs.Building.{adds_same}
use Rattle.lines.proofs.Numbers.{hexadecimal_digits}
use borrow.Author.Rules.{rules}
use Rattle.lines.proofs.text.Text.push_hexadecimal.Goals as goal

pub returns : goal.returns
returns c = let w = c.hex-k.ensures in adds_same (w.digits ∙ hexadecimal_digits _ _ (search rules) w.len) c.push_all.ensures
