-- Elements by their spots: what stands at the spots' indices in their store, and that no index comes twice.
use Rattle.std.proofs.Common.{◌≡◌, ℕ, List, [], ◌∷◌, map, AllPairs, slice_get, refl, sym, ap, ap₂, ◌∙◌, subst, ◌≢◌, arith}
use Rattle.std.specs.Prelude.{bytes_eq, filter_map}
use Rattle.std.specs.List.{cons_option, IsDistinct}
use Rattle.std.specs.Option.{option_map_or}
use Rattle.std.proofs.Math.ListN.{get_or-map}
use Rattle.std.proofs.lemmas.List.{length-map}
use Rattle.std.proofs.lemmas.List.Elements.{All-head, All-tail}
use Rattle.std.proofs.lemmas.Map.Made.{AllPairs-from_IsDistinct}
use Rattle.std.proofs.lemmas.Slice.Eq.{bytes_eq-Decides}
use Rattle.elem.specs.ElementValue.{ElementValue}
use Rattle.elem.specs.Order.{HaveDistinctIds}
use Rattle.elem_store.specs.Updates.{ids_of}
use Rattle.view.specs.inner.Spots.{elements_of, indices_of, AreSpotsIn, IsSpotIn}
use Rattle.view.specs.declared.order.SortedSpot.{SortedSpot}

pub stored-at : (stored : List ElementValue) (spots : List SortedSpot) → AreSpotsIn stored spots
    → filter_map (slice_get stored) (indices_of spots) ≡ elements_of spots
stored-at stored [] h = refl
stored-at stored (spot ∷ spots) h = ap₂ cons_option (All-head (IsSpotIn stored) spot spots h)
    (stored-at stored spots (All-tail (IsSpotIn stored) spot spots h))

abbrev id_at : List ElementValue → ℕ → List ℕ
id_at stored i = option_map_or (λ (e : ElementValue). e.id) (slice_get stored i) []

ids-at : (stored : List ElementValue) (spots : List SortedSpot) → AreSpotsIn stored spots
    → map (id_at stored) (indices_of spots) ≡ ids_of (elements_of spots)
ids-at stored [] h = refl
ids-at stored (spot ∷ spots) h =
    ap₂ (λ id ids. id ∷ ids) (ap (λ found. option_map_or (λ (e : ElementValue). e.id) found [])
    (All-head (IsSpotIn stored) spot spots h))
    (ids-at stored spots (All-tail (IsSpotIn stored) spot spots h))

pub indices-differ : (stored : List ElementValue) (spots : List SortedSpot) → AreSpotsIn stored spots
    → HaveDistinctIds (elements_of spots) → AllPairs (λ i j. i ≢ j) (indices_of spots)
indices-differ stored spots h apart i j d l m same =
    let id = id_at stored in
    let indices = indices_of spots in
    AllPairs-from_IsDistinct bytes_eq-Decides (map id indices)
    (subst (IsDistinct bytes_eq) (sym (ids-at stored spots h)) apart) i j (id d) l
    (omega (arith, m, length-map indices id))
    (get_or-map id indices i d ∙ ap id same ∙ sym (get_or-map id indices j d))
