-- The sort moves the spots, and each still tells where its element is stored.
use Rattle.std.proofs.Common.{refl, ap, ◌∙◌}
use Rattle.std.proofs.lemmas.List.Sorted.{All-permutation}
use Rattle.std.proofs.lemmas.Result.{IfOk-weaker}
use Rattle.view.specs.Shown.{in_scene_order}
use Rattle.view.specs.inner.Spots.{elements_of, AreSpotsIn, IsSpotIn}
use Rattle.view.proofs.ShownLaws.{live-distinct, ordered-distinct}
use Rattle.view.proofs.SpotLaws.{stored-at, indices-differ}
use Rattle.view.proofs.view.order_of.Goals as goal

pub sort-requires : goal.sort-requires
sort-requires c = live-distinct c.args.store.now.elements _ c.in_ok-live.ensures.exact c.in_ok-live.ensures.ordered

stored : (c : goal.After-drop-live-2) → AreSpotsIn c.args.store.now.elements c.sort.new.spots.items
stored c = All-permutation (IsSpotIn c.args.store.now.elements) _ _ c.in_ok-sort.ensures.permutation
    c.in_ok-live.ensures.stored

pub returns-clause-exact : goal.returns-clause-exact
returns-clause-exact c =
    let sorted =
    stored-at _ _ (stored c) ∙ c.in_ok-sort.ensures.sorted ∙ ap in_scene_order c.in_ok-live.ensures.exact in
    IfOk-weaker c.indices_of.result _ _ (λ order is. rw is sorted) c.indices_of.ensures

pub returns-clause-live : goal.returns-clause-live
returns-clause-live c =
    IfOk-weaker c.indices_of.result _ _ (λ order is. live-distinct c.args.store.now.elements _ refl
    c.in_ok-live.ensures.ordered) c.indices_of.ensures

pub returns-clause-distinct : goal.returns-clause-distinct
returns-clause-distinct c =
    let apart = live-distinct c.args.store.now.elements _ c.in_ok-live.ensures.exact c.in_ok-live.ensures.ordered in
    IfOk-weaker c.indices_of.result _ _
    (λ order is. rw is (indices-differ _ _ (stored c) (ordered-distinct (elements_of c.in_ok-live.live.items) _
    c.in_ok-sort.ensures.sorted apart))) c.indices_of.ensures
