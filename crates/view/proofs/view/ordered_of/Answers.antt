use Rattle.std.proofs.Common.{refl, subst, ◌∙◌}
use Rattle.view.specs.Shown.{AreInSceneOrder}
use Rattle.view.proofs.ShownLaws.{given-ordered, live-distinct}
use Rattle.view.proofs.view.ordered_of.Goals as goal

pub returns-then-are_in_order-clause-live : goal.returns-then-are_in_order-clause-live
returns-then-are_in_order-clause-live c = live-distinct c.args.store.elements _ refl c.given.ensures.ordered

pub returns-then-are_in_order-clause-exact : goal.returns-then-are_in_order-clause-exact
returns-then-are_in_order-clause-exact c =
    c.live_given.ensures
    ∙ given-ordered c.args.store.elements c.args.store.given
    (live-distinct c.args.store.elements _ refl c.given.ensures.ordered) c.given.ensures.stored c.given.ensures.all
    (subst AreInSceneOrder c.given.ensures.exact (c.are_in_order.ensures.in_order c.if-are_in_order.true))
