use Rattle.lines.specs.Lines.{last_line}
use Rattle.lines.proofs.Building.{adds_then, adds_from}
use Rattle.lines.proofs.Fitting.{last_fits}
use Rattle.lines.proofs.last.Goals as goal
use Rattle.lines.proofs.last.Goals.{in-None, in-Some}

pub returns : goal.returns
unfolding last_line
returns c =
    let fits = last_fits c.args.flag in
    elim c.match-flag.branch [
      | in-None w ↦ rw w.in-None.is
          (adds_from c.new-line.ensures (adds_then w.push_all.ensures (rw w.line-is at c.push.ensures)) (rw w.in-None.is at fits))
      | in-Some w ↦ rw w.in-Some.is
          (adds_from c.new-line.ensures
          (adds_then (adds_then w.push_all-in-Some.ensures w.push_number.ensures) (rw w.line-is at c.push.ensures)) (rw w.in-Some.is at fits))
    ]
