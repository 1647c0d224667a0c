use Rattle.std.proofs.Common.{arith, get_or, ap, ◌∙◌}
use Rattle.kept_view.specs.inner.Reached.{is_to_text}
use Rattle.kept_view.proofs.Stepping.{namers-more}
use Rattle.kept_view.proofs.reach.with_links_to_texts.Goals as goal

pub loop-id-preserved : goal.loop-id-preserved
loop-id-preserved c =
    namers-more (is_to_text c.args.board.live.now.items) c.args.board.live.now.items
    c.args.from.now.list.items c.loop-id.id-index c.id-item.result c.args.from.now.list.items
    c.loop-id.to.list.items c.add_linking_to_text.new.ids.list.items
    (omega arith) (c.id-item.is
    ∙ ap (λ ids. get_or ids c.loop-id.id-index c.id-item.result) c.deref-id-items.ensures.value)
    c.loop-id.invariant c.in_ok-add_linking_to_text.ensures.kept c.in_ok-add_linking_to_text.ensures.linking
