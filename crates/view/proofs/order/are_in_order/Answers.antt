use Rattle.std.proofs.Common.{◌≡◌, rules, subst}
use Rattle.std.specs.List.{IsAllAdjacentAnswer}
use Rattle.std.proofs.lemmas.List.Sorted.{answers_always}
use Rattle.elem.specs.ElementValue.{ElementValue}
use Rattle.view.specs.Shown.{comes_before}
use Rattle.view.proofs.InOrder.{pairs_from_neighbours, not_in_pairs}
use Rattle.view.proofs.SceneOrder.{scene_order}
use Rattle.view.proofs.order.are_in_order.Goals as goal

pub returns-clause-in_order : goal.returns-clause-in_order
returns-clause-in_order c is =
    pairs_from_neighbours scene_order c.args.elements.now
    (subst (IsAllAdjacentAnswer (λ (e f : ElementValue) b. b ≡ comes_before e f) c.args.elements.now) is
    (c.is_sorted_by.ensures.cases comes_before (answers_always _ _ _ (λ f a r g k. search rules))))

pub returns-clause-not_in_order : goal.returns-clause-not_in_order
returns-clause-not_in_order c is =
    not_in_pairs scene_order c.args.elements.now
    (subst (IsAllAdjacentAnswer (λ (e f : ElementValue) b. b ≡ comes_before e f) c.args.elements.now) is
    (c.is_sorted_by.ensures.cases comes_before (answers_always _ _ _ (λ f a r g k. search rules))))
