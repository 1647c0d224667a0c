use Rattle.std.proofs.Common.{arith, bytes_eq, ◌||◌, ap, ◌∙◌, subst, take_all}
use Rattle.elem_store.specs.Updates.{is_among}
use Rattle.kept_view.specs.inner.Reached.{AreStartedBy}
use Rattle.kept_view.proofs.Stepping.{started-more}
use Rattle.kept_view.proofs.reach.started_by.Goals as goal

pub loop-e-preserved : goal.loop-e-preserved
loop-e-preserved c =
    started-more c.args.elements.now c.loop-e.e-index c.e-item.result c.loop-e.ids.list.items
    c.add.new.self.list.items c.add_linked.new.ids.list.items
    (omega arith) c.e-item.is c.loop-e.invariant (λ x. c.in_ok-add.ensures x
    ∙ ap (λ y. bytes_eq x y || is_among c.loop-e.ids.list.items x) c.id.ensures)
    (rw c.get.ensures at c.in_ok-add_linked.ensures)

pub returns : goal.returns
returns c = subst (AreStartedBy c.loop-e.ids.list.items)
    (take_all c.loop-e.e-index c.args.elements.now (omega arith)) c.loop-e.invariant
