use Rattle.std.proofs.Common.{arith, get_or, ap, ◌∙◌}
use Rattle.kept_view.proofs.Stepping.{linked-more}
use Rattle.kept_view.proofs.reach.with_linked.Goals as goal

pub loop-id-preserved : goal.loop-id-preserved
loop-id-preserved c =
    linked-more c.args.board.live.now.items c.args.from.now.list.items c.loop-id.id-index c.id-item.result
    c.args.from.now.list.items c.loop-id.to.list.items c.add_linked_by.new.ids.list.items
    c.args.board.ordered (omega arith) (c.id-item.is
    ∙ ap (λ ids. get_or ids c.loop-id.id-index c.id-item.result) c.deref-id-items.ensures.value)
    c.loop-id.invariant c.in_ok-add_linked_by.ensures.kept c.in_ok-add_linked_by.ensures.linked
