use borrow.Author.Rules.{rules}
use Rattle.run.proofs.Passing.{run_passes}
use Rattle.session.proofs.Openings.{small_opening, opening_passes}
use Rattle.run.specs.Run.{refused, ran}
use mathlib.Core.Path.{sym, ◌∙◌}
use native.Mathlib.Omega.{arith}
use Rattle.run.proofs.run.Goals as goal

pub followed-requires : goal.followed-requires
followed-requires c =
    let p = (run_passes _ _ _ _ _ _ _ _).0 (sym c.tests.ensures ∙ c.in_ok-tests.was) in
    let s = small_opening _ _ _ _ _ _ p.0 in
    let b = ((opening_passes _ _ _ _ _ _).0 p.0).1 in
    record {
      counts = (omega (arith, s.inputs), omega (arith, s.outputs));
      bounds = (b.waiting.1, b.losses.0, b.losses.1);
      room = (p.1.few, p.2);
      by_index = p.1.valid;
    }

pub returns-in_err-tests : goal.returns-in_err-tests
returns-in_err-tests c = search (rules, refused (sym c.tests.ensures ∙ c.in_err-tests.was))

pub returns : goal.returns
returns c =
    let e = sym c.tests.ensures ∙ c.in_ok-tests.was in
    ran e (c.followed.ensures _ ((run_passes _ _ _ _ _ _ _ _).0 e).0)
