use mathlib.Core.Logic.{inl, inr, ⊎_elim}
use mathlib.Core.Path.{sym, ◌∙◌}
use Rattle.run.proofs.Columns.{sorted_near, sorted_far, sorted_rest}
use Rattle.run.proofs.column.Column.sorted.Goals as goal

pub returns-then-self-by : goal.returns-then-self-by
returns-then-self-by c = λ f e h. (let d = c.distance-by.ensures in sorted_near f _ _ h _ c.requires d.0 (d.1 ∙ sym e) c.if-self-by.true)

pub returns-then-self-by-2 : goal.returns-then-self-by-2
returns-then-self-by-2 c = λ f e h. (let d = c.distance-by.ensures in sorted_far f _ _ h _ c.requires d.0 (d.1 ∙ sym e) (⊎_elim inl (λ p. inr p.1) c.if-self-by-2.either))

pub returns-else-self-by-2 : goal.returns-else-self-by-2
returns-else-self-by-2 c = λ f e h. (let d = c.distance-by.ensures in sorted_rest f _ _ h _ c.requires d.0 (d.1 ∙ sym e))
