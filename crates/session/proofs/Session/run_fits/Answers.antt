use Rattle.states.proofs.Member.{not_in_zero}
use Rattle.states.proofs.Same.{some_in}
use Rattle.states.proofs.Answers.{said}
use borrow.Author.Tests.{ltb-true}
use native.Mathlib.Omega.{arith}
use Rattle.session.proofs.Session.run_fits.Goals as goal

pub returns-then-x-eq0 : goal.returns-then-x-eq0
returns-then-x-eq0 c = rw c.if-x-eq0.true (said (λ q i. absurd (not_in_zero q i)))

pub returns-else-r-from : goal.returns-else-r-from
returns-else-r-from c = record {
  yes = λ t. absurd (omega (arith, ltb-true));
  no = λ _ h. let (q, i) = some_in _ c.if-x-eq0.false in omega (arith, (h q i).run);
}
