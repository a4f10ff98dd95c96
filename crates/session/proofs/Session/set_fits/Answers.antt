use Rattle.session.proofs.Clauses.{stops}
use Rattle.session.proofs.Passes.{runs_fit, rest_decides}
use lib.ListN.{length, drop, length-drop}
use lib.Seq.{take_all}
use Prim.Native.Nat.{◌+◌, ◌*◌}
use mathlib.Core.Path.{◌≡◌, refl}
use native.Mathlib.Omega.{arith}
use borrow.Author.Rules.{rules}
use Rattle.session.proofs.Session.set_fits.Goals as goal

pub returns-then-runs_fit : goal.returns-then-runs_fit
returns-then-runs_fit c =
    let s = c.args.self.now in
    let len : length s.set ≡ 264 = search rules in
    rest_decides s.set c.by_run.result _ s.states s.waiting s.losses s.arrived _ len c.requires (omega (arith, c.held_count-n.ensures)) (take_all _ (drop (8 * (c.held_count-n.result + 1)) s.set) (rw length-drop (omega arith))) c.by_run.ensures (c.runs_fit.ensures.yes c.if-runs_fit.true) c.empty.ensures

pub returns-else-runs_fit : goal.returns-else-runs_fit
returns-else-runs_fit c =
    let s = c.args.self.now in
    let len : length s.set ≡ 264 = search rules in
    stops c.runs_fit.ensures c.if-runs_fit.false (runs_fit s.set c.by_run.result _ s.states s.waiting s.losses s.arrived _ len c.requires (omega (arith, c.held_count-n.ensures)) refl c.by_run.ensures)
