use Rattle.session.proofs.Clauses.{stops, passes}
use Rattle.session.proofs.Passes.{table_counts, small, front_below, back_decides}
use Rattle.states.proofs.Answers.{denied}
use lib.ListN.{length}
use mathlib.Core.Path.{◌≡◌, sym, ◌∙◌}
use native.Mathlib.Omega.{arith}
use borrow.Author.Rules.{rules}
use Rattle.session.proofs.Session.table_sound.Goals as goal

pub returns-then-is_err : goal.returns-then-is_err
returns-then-is_err c =
    let e = rw (c.counts.ensures, c.from-states.ensures, c.from-inputs.ensures, c.from-outputs.ensures) at (sym c.is_err.ensures.value ∙ c.if-is_err.true) in
    denied (λ t. let k = table_counts _ _ _ _ t in let f = rw k at e in cc f)

pub split_at-requires : goal.split_at-requires
split_at-requires c =
    let s = c.args.self.now in
    let len : length s.rows ≡ 2048 = search rules in
    let k = passes _ (rw (c.counts.ensures, c.from-states.ensures, c.from-inputs.ensures, c.from-outputs.ensures) at (sym c.is_err.ensures.value ∙ c.if-is_err.false)) in
    rw (c.from-states.ensures, c.from-inputs.ensures, c.from-outputs.ensures) (omega (arith, small s.rows s.states s.inputs s.outputs len k))

pub returns-then-lead_below : goal.returns-then-lead_below
returns-then-lead_below c =
    let s = c.args.self.now in
    let len : length s.rows ≡ 2048 = search rules in
    let k = passes _ (rw (c.counts.ensures, c.from-states.ensures, c.from-inputs.ensures, c.from-outputs.ensures) at (sym c.is_err.ensures.value ∙ c.if-is_err.false)) in
    let front = rw (c.from-states.ensures, c.from-inputs.ensures, c.from-outputs.ensures) at c.split_at.ensures.front in
    let back = rw (c.from-states.ensures, c.from-inputs.ensures, c.from-outputs.ensures) at c.split_at.ensures.back in
    back_decides s.rows s.states s.inputs s.outputs len k front back (c.lead_below.ensures.yes c.if-lead_below.true) c.is_zero.ensures

pub returns-else-lead_below : goal.returns-else-lead_below
returns-else-lead_below c =
    let s = c.args.self.now in
    let len : length s.rows ≡ 2048 = search rules in
    let k = passes _ (rw (c.counts.ensures, c.from-states.ensures, c.from-inputs.ensures, c.from-outputs.ensures) at (sym c.is_err.ensures.value ∙ c.if-is_err.false)) in
    let front = rw (c.from-states.ensures, c.from-inputs.ensures, c.from-outputs.ensures) at c.split_at.ensures.front in
    let back = rw (c.from-states.ensures, c.from-inputs.ensures, c.from-outputs.ensures) at c.split_at.ensures.back in
    stops c.lead_below.ensures c.if-lead_below.false (front_below s.rows s.states s.inputs s.outputs len k front back)
