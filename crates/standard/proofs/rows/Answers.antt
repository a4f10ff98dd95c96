-- `standard::rows` meets its contract. This is the test of the rule over the whole constant: the checker computes the rule at each of the
-- 2,048 places and finds the constant's entry there. Assumes nothing.
use mathlib.Core.Path.{refl}
use Rattle.standard.specs.Rule.{after_input, after_output, rule}
use Rattle.standard.specs.Box.{standard_rows}
use Rattle.standard.proofs.rows.Goals as goal

pub returns : goal.returns
unfolding standard_rows rule after_input after_output
returns c = refl
