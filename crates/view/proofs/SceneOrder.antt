-- Elements in scene order, which is the one permutation in which each comes before those behind it.
use Rattle.std.proofs.Common.{◌≡◌, ◌+◌, ◌<◌, Bool, false, List, [], ◌∷◌, length, sym, subst₂, arith}
use Rattle.std.proofs.lemmas.List.{length-map, get_or-map}
use Rattle.std.specs.Cmp.{IsStrictWeakOrder}
use Rattle.std.specs.List.Sorted.{IsPermutation, IsSortedBy}
use Rattle.elem.specs.ElementValue.{ElementValue}
use Rattle.elem.specs.Order.{HaveDistinctIds}
use Rattle.view.specs.Shown.{comes_before, in_scene_order, IsSceneOrder}
use Rattle.view.specs.inner.Spots.{element_at, elements_of}
use Rattle.view.specs.declared.order.SortedSpot.{SortedSpot}
use Rattle.view.proofs.InOrder.{IsElementOrder, IsPermutation-in_order, AllPairs-in_order, in_order-only}
use Rattle.view.proofs.OrderLaws.{place_cmp, place_cmp-total, comes_before-cmp, comes_before-order, tied-ids}

pub scene_order : IsElementOrder comes_before place_cmp
scene_order = record { total = place_cmp-total; less = comes_before-cmp; tied = tied-ids }

pub IsPermutation-in_scene_order : (es : List ElementValue) → IsPermutation es (in_scene_order es)
IsPermutation-in_scene_order = IsPermutation-in_order comes_before

pub in_scene_order-is : (es : List ElementValue) → HaveDistinctIds es → IsSceneOrder es (in_scene_order es)
in_scene_order-is es apart = record {
  moved = IsPermutation-in_scene_order es;
  in_order = AllPairs-in_order scene_order es apart;
  only = λ fs moved h. in_order-only scene_order es fs apart moved h;
}

-- ---- elements by their spots
abbrev pub spot_before : SortedSpot → SortedSpot → Bool
spot_before spot other = comes_before (element_at spot) (element_at other)

pub spot_before-order : IsStrictWeakOrder spot_before
spot_before-order = record {
  one_way = λ x y. comes_before-order.one_way (element_at x) (element_at y);
  chain = λ x y z. comes_before-order.chain (element_at x) (element_at y) (element_at z);
}

pub sorted-elements : (spots : List SortedSpot) → IsSortedBy spot_before spots
    → IsSortedBy comes_before (elements_of spots)
sorted-elements [] up k d low within = absurd (omega (arith, within))
sorted-elements (spot ∷ spots) up k d low within =
    let inside : k + 1 < length (spot ∷ spots) = omega (arith, within, length-map (spot ∷ spots) element_at) in
    subst₂ (λ e f. comes_before e f ≡ false) (sym (get_or-map element_at (spot ∷ spots) (k + 1) spot d inside))
    (sym (get_or-map element_at (spot ∷ spots) k spot d (omega (arith, inside))))
    (up k spot low inside)
