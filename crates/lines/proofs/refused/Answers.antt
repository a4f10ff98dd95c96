use mathlib.Core.Path.{sym, ◌∙◌}
use mathlib.Core.List.{append-nil}
use Rattle.lines.specs.Lines.{refused_line}
use Rattle.lines.proofs.Building.{adds_then, adds_from, adds_same}
use Rattle.lines.proofs.Fitting.{refused_fits}
use Rattle.lines.proofs.refused.Goals as goal
use Rattle.lines.proofs.refused.Goals.{then-has_second, else-has_second}

pub returns : goal.returns
unfolding refused_line
returns c =
    let fits = refused_fits c.args.told in
    let places = adds_then (adds_then c.push_all.ensures (rw c.from.ensures at c.push_number.ensures)) c.push_number-2.ensures in
    elim c.if-has_second.branch [
      | then-has_second w ↦ let e = sym c.has_second.ensures ∙ w.if-has_second.true in
          rw e
          (adds_from c.new-line.ensures
          (adds_then (adds_then places w.push_number-then-has_second.ensures) (rw w.line-is at c.push.ensures)) (rw e at fits))
      | else-has_second w ↦ let e = sym c.has_second.ensures ∙ w.if-has_second.false in
          rw e
          (adds_from c.new-line.ensures (adds_then (adds_same (sym (append-nil _)) places) (rw w.line-is at c.push.ensures)) (rw e at fits))
    ]
