use Rattle.run.proofs.Columns.{column_at, image_all, image_turned, rest_leads}
use native.Mathlib.Omega.{arith}
use Rattle.run.proofs.column.Columns.image.Goals as goal

pub returns-then-rest-eq0 : goal.returns-then-rest-eq0
returns-then-rest-eq0 c =
    let h = column_at _ _ _ _ _ _ c.args.self.now.ready c.from.ensures c.requires in
    image_turned _ _ _ _ h _ (omega arith) _ _ c.turned-near.ensures c.turned-far.ensures c.if-rest-eq0.true

pub led-requires-clause-by_index : goal.led-requires-clause-by_index
led-requires-clause-by_index c =
    let h = column_at _ _ _ _ _ _ c.args.self.now.ready c.from.ensures c.requires in
    rest_leads _ _ _ _ h c.args.from

pub returns : goal.returns
returns c =
    let h = column_at _ _ _ _ _ _ c.args.self.now.ready c.from.ensures c.requires in
    image_all _ _ _ _ h _ (omega arith) _ _ c.turned-near.ensures c.turned-far.ensures _ c.led.ensures
