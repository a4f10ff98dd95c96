use Rattle.std.specs.Prelude.{Option, Some}
use Rattle.table.specs.declared.answer.Symbol.{Symbol}
use mathlib.Core.Path.{◌≡◌, sym, ap, ◌∙◌}
use Rattle.run.specs.Trace.{came, went}
use Rattle.table.proofs.Laws.{given_means}
use native.Mathlib.Omega.{arith}
use Rattle.run.proofs.trace.step.Goals as goal

-- the symbol that was found
known : {r e : Option Symbol} {x y : Symbol} → r ≡ e → r ≡ Some x → x ≡ y → e ≡ Some y
known p q d = sym p ∙ q ∙ ap (λ (z : Symbol). Some z) d

pub arrived-requires : goal.arrived-requires
arrived-requires c = ((given_means _ _ _ _).0 (known c.event.ensures c.in-Some-Input.is c.in-Some-Input.field-0-is)).1

pub overflow_add-prepared : goal.overflow_add-prepared
overflow_add-prepared c = omega (arith, ((given_means _ _ _ _).1 (known c.event.ensures c.in-Some-Output.is c.in-Some-Output.field-0-is)).1)

pub sent-requires-clause-column : goal.sent-requires-clause-column
sent-requires-clause-column c = omega (arith, ((given_means _ _ _ _).1 (known c.event.ensures c.in-Some-Output.is c.in-Some-Output.field-0-is)).1)

pub returns-in-Some-Input : goal.returns-in-Some-Input
returns-in-Some-Input c =
    let wide = c.args.prepared.now.wide in
    came (known c.event.ensures c.in-Some-Input.is c.in-Some-Input.field-0-is) c.arrived.ensures.count (rw wide at c.arrived.ensures.came)

pub returns-in-Some-Output : goal.returns-in-Some-Output
returns-in-Some-Output c =
    let wide = c.args.prepared.now.wide in
    went (known c.event.ensures c.in-Some-Output.is c.in-Some-Output.field-0-is) c.sent.ensures.line (rw wide at c.sent.ensures.words)
