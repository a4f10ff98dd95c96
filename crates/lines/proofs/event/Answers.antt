use native.Mathlib.Omega.{arith}
use Rattle.lines.specs.Lines.{event_line}
use Rattle.lines.proofs.Building.{adds_then, adds_from}
use Rattle.lines.proofs.Fitting.{event_fits}
use Rattle.lines.proofs.event.Goals as goal

pub returns : goal.returns
unfolding event_line
returns c =
    let fits = event_fits c.args.k c.args.b c.args.twelve.now (omega arith) (λ i. omega (arith, c.type_inv.twelve i)) in
    let parts =
    rw (c.states-states.ensures, c.byte.ensures, c.byte-2.ensures, c.byte-3.ensures, c.byte-4.ensures) at
    (adds_then
    (adds_then (adds_then (adds_then (adds_then c.push_decimal.ensures c.push_symbol.ensures) c.push_states.ensures) c.push_pair.ensures)
    c.push_pair-2.ensures)
    c.push.ensures) in
    adds_from c.new-line.ensures parts fits
