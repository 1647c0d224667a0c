use Rattle.std.proofs.Common.{◌≡◌, Bool, true, false, not, ◌||◌, refl, arith, get_or, ap, ◌∙◌}
use Rattle.links.specs.Names.{is_text}
use Rattle.elem_store.specs.Updates.{is_among}
use Rattle.kept_view.specs.inner.Reached.{is_text_or_to}
use Rattle.kept_view.proofs.Stepping.{namers-more}
use Rattle.kept_view.proofs.reach.with_namers.Goals as goal

twice : (a b : Bool) → (not (not a) || b) ≡ (a || b)
twice true b = refl
twice false b = refl

pub loop-id-preserved : goal.loop-id-preserved
loop-id-preserved c =
    namers-more (is_text_or_to c.args.near.now.list.items) c.args.board.live.now.items
    c.args.from.now.list.items c.loop-id.id-index c.id-item.result c.args.from.now.list.items
    c.loop-id.to.list.items c.add_linking.new.ids.list.items
    (omega arith) (c.id-item.is
    ∙ ap (λ ids. get_or ids c.loop-id.id-index c.id-item.result) c.deref-id-items.ensures.value)
    c.loop-id.invariant c.in_ok-add_linking.ensures.kept
    (λ e there links is. c.in_ok-add_linking.ensures.linking e there links
    (ap (λ b. not (not b) || is_text e.kind) c.has.ensures
    ∙ twice (is_among c.args.near.now.list.items c.id-item.result) (is_text e.kind) ∙ is))
