use Rattle.std.proofs.Common.{rules}
use Rattle.std.proofs.lemmas.Result.{on_ok_weaker}
use Rattle.std.proofs.lemmas.List.Sorted.{answers_always, IsPermutation-map, IsPermutation-trans}
use Rattle.view.specs.inner.Spots.{element_at, elements_of}
use Rattle.view.proofs.InOrder.{in_order-from_sort}
use Rattle.view.proofs.SceneOrder.{scene_order, spot_before, spot_before-order, sorted-elements}
use Rattle.view.proofs.order.sort.Goals as goal

pub returns-clause-permutation : goal.returns-clause-permutation
returns-clause-permutation c =
    IsPermutation-trans _ _ _ c.sort_by_cached_key.ensures.permutation c.sort_by.ensures.permutation

pub returns-clause-sorted : goal.returns-clause-sorted
returns-clause-sorted c =
    let moved = IsPermutation-trans _ _ _ c.sort_by_cached_key.ensures.permutation c.sort_by.ensures.permutation in
    on_ok_weaker c.sort_by.result
    (λ sorted. in_order-from_sort scene_order (elements_of c.args.spots.now.items)
    (elements_of c.sort_by.new.self.items) c.requires
    (IsPermutation-map element_at _ _ moved)
    (sorted-elements c.sort_by.new.self.items
    (sorted spot_before spot_before-order (answers_always _ _ _ (λ f a r g k. search rules)))))
    c.sort_by.ensures.sorted
