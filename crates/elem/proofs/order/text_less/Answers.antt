use Rattle.elem.proofs.OrderLaws.{same-not_less}
use Rattle.elem.proofs.order.text_less.Goals as goal

pub returns-then-same : goal.returns-then-same
returns-then-same c = same-not_less c.args.a.now c.args.b.now (c.same.ensures.0 c.if-same.true)
