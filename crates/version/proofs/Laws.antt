-- Every statement of specs/Laws.antt, proved. Assumes nothing.
use mathlib.Core.Path.{sym, ◌∙◌}
use native.Mathlib.Omega.{arith}
use Rattle.version.specs.Laws.{OneVersion, FiguresBack}

pub one_version : OneVersion
one_version a b e f = e ∙ sym f

pub figures_back : FiguresBack
figures_back major minor patch h l = record { major_is = omega arith; minor_is = omega arith; patch_is = omega arith }
