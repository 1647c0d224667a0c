-- Of live elements, of what they are when they are placed, and of what is shown of them, what the others keep.
use Rattle.std.proofs.Common.{◌≡◌, true, List, length, map, bytes_eq, ◌∙◌}
use Rattle.std.proofs.lemmas.List.{length-map}
use Rattle.std.proofs.lemmas.List.Sorted.{IsPermutation-map, All-permutation}
use Rattle.std.proofs.lemmas.List.Sums.{AllPass-from_list_all, list_all-from_AllPass}
use Rattle.std.proofs.lemmas.Map.Keys.{IsDistinct-IsPermutation}
use Rattle.std.specs.Cmp.Lexicographic.{nat_list_eq_equiv}
use Rattle.frac_keys.specs.Rising.{is_key_or_none}
use Rattle.index_repair.specs.Repair.{repaired}
use Rattle.index_repair.proofs.CallerLemmas.{repaired-law}
use Rattle.elem.specs.ElementValue.{ElementValue}
use Rattle.elem_store.specs.Updates.{ids_of}
use Rattle.view.specs.Settled.{unsettled, settled}
use Rattle.elem.specs.Order.{HaveDistinctIds}
use Rattle.index_repair.specs.Keyed.{index_of, HaveKeysOrNone}
use Rattle.view.specs.Shown.{in_scene_order, placed, shown, bare, without_index}
use Rattle.view.proofs.CallerLemmas.{IsPermutation-in_scene_order, map-less, unsettled-settled, shown-is, others-keyed}

pub shown-distinct : (live : List ElementValue) → HaveDistinctIds live → HaveKeysOrNone live
    → HaveDistinctIds (shown live)
shown-distinct live apart h =
    IsDistinct-IsPermutation bytes_eq nat_list_eq_equiv.symm (ids_of live) (ids_of (shown live)) (shown-is live h).ids
    apart

-- there are as many keys as elements
pub keys-count : (live : List ElementValue) → HaveKeysOrNone live
    → length (repaired (map index_of (in_scene_order live))) ≡ length (in_scene_order live)
keys-count live h =
    let ordered = in_scene_order live in
    let moved = IsPermutation-map index_of live ordered (IsPermutation-in_scene_order live) in
    let keys = list_all-from_AllPass is_key_or_none (map index_of ordered)
    (All-permutation (λ x. is_key_or_none x ≡ true) (map index_of live) (map index_of ordered) moved
    (AllPass-from_list_all is_key_or_none (map index_of live) h)) in
    (repaired-law (map index_of ordered) keys).count ∙ length-map ordered index_of

-- what is shown of a live element is that element but for what settling and repair change
pub bare-shown : (live : List ElementValue) → HaveKeysOrNone live
    → map bare (shown live) ≡ map bare (in_scene_order live)
unfolding placed shown
bare-shown live h =
    let ordered = in_scene_order live in
    map-less unsettled without_index (settled (placed live)) (placed live) (unsettled-settled (placed live))
    ∙ map-less without_index unsettled (placed live) ordered
    (others-keyed ordered (repaired (map index_of ordered)) (keys-count live h))
