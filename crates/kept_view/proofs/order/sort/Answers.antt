use Rattle.std.proofs.Common.{rules}
use Rattle.std.proofs.lemmas.Result.{on_ok_weaker}
use Rattle.std.proofs.lemmas.List.Sorted.{answers_always}
use Rattle.view.specs.Shown.{comes_before}
use Rattle.view.proofs.CallerLemmas.{comes_before-order, in_order-from_sort, scene_order}
use Rattle.kept_view.proofs.order.sort.Goals as goal

pub returns : goal.returns
returns c =
    on_ok_weaker c.sort_by.result
    (λ sorted. in_order-from_sort scene_order c.args.elements.now.items c.sort_by.new.self.items c.requires
    c.sort_by.ensures.permutation
    (sorted comes_before comes_before-order (answers_always _ _ _ (λ f a r g k. search rules))))
    c.sort_by.ensures.sorted
