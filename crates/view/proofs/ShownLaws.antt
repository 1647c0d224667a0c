-- What is shown: the live elements in scene order, with rising keys, and settled; and the view of a view is that view.
use Rattle.std.proofs.Common.{◌≡◌, ℕ, ◌+◌, Bool, true, false, ◌&&◌, cond, List, [], ◌∷◌, ◌++◌, length, map, get_or, take, append-nil, Option, Some, None, bytes_eq, refl, sym, ap, ap₂, ◌∙◌, subst, subst₂, arith}
use Rattle.std.proofs.lemmas.List.{length-map}
use Rattle.std.specs.Prelude.{Contains, filter, slice_get}
use Rattle.std.specs.List.{AllByRecursion, IsDistinct, list_all}
use Rattle.std.specs.List.Sorted.{IsPermutation}
use Rattle.std.specs.Cmp.Lexicographic.{nat_list_eq_equiv}
use Rattle.std.proofs.lemmas.Bool.{and_from, and_parts, or_left, cond-true, cond-false, false_from_ne_true}
use Rattle.std.proofs.lemmas.Slice.Eq.{bytes_eq-Decides}
use Rattle.std.proofs.lemmas.List.Elements.{All-from_recursion, filter_more, filter_passes}
use Rattle.std.proofs.lemmas.Option.{get_or_from_slice_get, slice_get_within}
use Rattle.std.proofs.lemmas.List.Kept.{AllPairs-cons, AllPairs-filter}
use Rattle.std.proofs.lemmas.Map.Keys.{IsDistinct-IsPermutation}
use Rattle.std.proofs.lemmas.List.Sums.{AllPass-from_list_all, list_all-from_AllPass}
use Rattle.std.proofs.lemmas.List.Sorted.{IsPermutation-refl, IsPermutation-sym, IsPermutation-map, All-permutation}
use Rattle.frac_keys.specs.Keys.{bytes_less}
use Rattle.frac_keys.specs.Rising.{ends_rise, is_key_or_none, lies_between, rise_between, are_rising}
use Rattle.frac_keys.proofs.CallerLemmas.{AreBetween, lies_between-risen, rise_between-filter}
use Rattle.index_repair.specs.Repair.{repaired}
use Rattle.index_repair.proofs.CallerLemmas.{keyed-rising, repaired-law}
use Rattle.elem.specs.ElementValue.{ElementValue}
use Rattle.elem_store.specs.Updates.{ids_of}
use Rattle.elem_store.proofs.CallerLemmas.{Contains-filter, filter-Contains, less-other}
use Rattle.elem.specs.Order.{HaveDistinctIds}
use Rattle.index_repair.specs.Keyed.{index_of, keyed, HaveKeysOrNone, HaveRisingKeys}
use Rattle.view.specs.Shown.{is_live, live_elements, place_less, comes_before, in_scene_order, AreInSceneOrder, IsSceneOrder, placed, shown, bare, without_index, IsView}
use Rattle.links.proofs.CallerLemmas.{map-map}
use Rattle.view.specs.Settled.{settled, unsettled, AreSettled}
use Rattle.view.proofs.SettledLaws.{map-less, unsettled-settled, settled-are, settled-again}
use Rattle.view.proofs.InOrder.{in_order-only, in_order-same, in_order-permuted, HaveDistinctIds-permuted}
use Rattle.view.proofs.SceneOrder.{scene_order, IsPermutation-in_scene_order, in_scene_order-is}

-- ---- ids that rise
pub live_elements-rise : (stored : List ElementValue) → are_rising (ids_of stored) ≡ true
    → are_rising (ids_of (live_elements stored)) ≡ true
live_elements-rise stored h = rise_between-filter (λ (e : ElementValue). e.id) is_live None stored h

apart_from_below : (key : List ℕ) (keys : List (List ℕ)) → list_all (lies_between (Some key) None) keys ≡ true
    → AllByRecursion (λ other. bytes_eq key other ≡ false) keys
apart_from_below key [] h = tt
apart_from_below key (other ∷ keys) h =
    let p = and_parts (lies_between (Some key) None other) (list_all (lies_between (Some key) None) keys) h in
    let less = (and_parts (bytes_less key other) true p.0).0 in (
      false_from_ne_true (bytes_eq key other) (λ same. less-other key other less ((bytes_eq-Decides key other).0 same)),
      apart_from_below key keys p.1,
    )

distinct_from_rising : (low : Option (List ℕ)) (keys : List (List ℕ)) → rise_between low None keys ≡ true
    → IsDistinct bytes_eq keys
unfolding IsDistinct
distinct_from_rising low [] h = tt
distinct_from_rising low (key ∷ keys) h =
    let p = and_parts (ends_rise low (Some key)) (rise_between (Some key) None keys) h in
    (apart_from_below key keys (lies_between-risen (Some key) None keys p.1), distinct_from_rising (Some key) keys p.1)

pub HaveDistinctIds-rising : (es : List ElementValue) → are_rising (ids_of es) ≡ true → HaveDistinctIds es
HaveDistinctIds-rising es h = distinct_from_rising None (ids_of es) h

pub live-distinct : (stored live : List ElementValue) → live ≡ live_elements stored → are_rising (ids_of stored) ≡ true
    → HaveDistinctIds live
live-distinct stored live is h = rw is (HaveDistinctIds-rising (live_elements stored) (live_elements-rise stored h))

-- ---- elements with new keys
pub ids_of-keyed : (es : List ElementValue) (keys : List (List ℕ)) → length keys ≡ length es
    → ids_of (keyed es keys) ≡ ids_of es
ids_of-keyed [] keys h = refl
ids_of-keyed (e ∷ es) [] h = absurd (omega arith)
ids_of-keyed (e ∷ es) (key ∷ keys) h = ap (λ ids. e.id ∷ ids) (ids_of-keyed es keys (omega arith))

pub indices-keyed : (es : List ElementValue) (keys : List (List ℕ)) → length keys ≡ length es
    → map index_of (keyed es keys) ≡ map Some keys
indices-keyed [] [] h = refl
indices-keyed [] (key ∷ keys) h = absurd (omega arith)
indices-keyed (e ∷ es) [] h = absurd (omega arith)
indices-keyed (e ∷ es) (key ∷ keys) h = ap (λ indices. Some key ∷ indices) (indices-keyed es keys (omega arith))

pub others-keyed : (es : List ElementValue) (keys : List (List ℕ)) → length keys ≡ length es
    → map without_index (keyed es keys) ≡ map without_index es
others-keyed [] keys h = refl
others-keyed (e ∷ es) [] h = absurd (omega arith)
others-keyed (e ∷ es) (key ∷ keys) h = ap (λ others. without_index e ∷ others) (others-keyed es keys (omega arith))

live-keyed : (es : List ElementValue) (keys : List (List ℕ)) → list_all is_live es ≡ true
    → list_all is_live (keyed es keys) ≡ true
live-keyed [] keys h = refl
live-keyed (e ∷ es) [] h = refl
live-keyed (e ∷ es) (key ∷ keys) h =
    let p = and_parts (is_live e) (list_all is_live es) h in
    and_from (is_live e) (list_all is_live (keyed es keys)) p.0 (live-keyed es keys p.1)

-- ---- elements whose keys rise are in scene order
list_all-permuted : {X : Type 0} (p : X → Bool) (xs ys : List X) → IsPermutation xs ys → list_all p xs ≡ true
    → list_all p ys ≡ true
list_all-permuted p xs ys moved h =
    list_all-from_AllPass p ys (All-permutation (λ x. p x ≡ true) xs ys moved (AllPass-from_list_all p xs h))

before_by_keys : (e f : ElementValue) (key other : List ℕ) → e.index ≡ Some key → f.index ≡ Some other
    → bytes_less key other ≡ true → comes_before e f ≡ true
before_by_keys e f key other first second less =
    subst₂ (λ a b. place_less a e.id b f.id ≡ true) (sym first) (sym second)
    (or_left (bytes_less key other) (bytes_eq key other && bytes_less e.id f.id) less)

all_before : (e : ElementValue) (key : List ℕ) (es : List ElementValue) (keys : List (List ℕ)) → e.index ≡ Some key
    → map index_of es ≡ map Some keys
    → list_all (lies_between (Some key) None) keys ≡ true → AllByRecursion (λ f. comes_before e f ≡ true) es
all_before e key [] keys first is above = tt
all_before e key (f ∷ fs) [] first is above = cc
all_before e key (f ∷ fs) (other ∷ keys) first is above =
    let p = and_parts (lies_between (Some key) None other) (list_all (lies_between (Some key) None) keys) above in (
      before_by_keys e f key other first (cc) (and_parts (bytes_less key other) true p.0).0,
      all_before e key fs keys first (cc) p.1,
    )

order_from_keys : (low : Option (List ℕ)) (es : List ElementValue) (keys : List (List ℕ))
    → map index_of es ≡ map Some keys → rise_between low None keys ≡ true → AreInSceneOrder es
order_from_keys low [] keys is rise = λ i j d l m. absurd (omega arith)
order_from_keys low (e ∷ es) [] is rise = cc
order_from_keys low (e ∷ es) (key ∷ keys) is rise =
    let p = and_parts _ (rise_between (Some key) None keys) rise in
    let P : ElementValue → Type 0 = λ f. comes_before e f ≡ true in
    let above = all_before e key es keys (cc) (cc) (lies_between-risen (Some key) None keys p.1) in
    AllPairs-cons (λ e f. comes_before e f ≡ true) e es (All-from_recursion P es above)
    (order_from_keys (Some key) es keys (cc) p.1)

pub AreInSceneOrder-from_keys : (es : List ElementValue) → HaveRisingKeys es → AreInSceneOrder es
AreInSceneOrder-from_keys es h = order_from_keys None es h.keys h.each h.rise

-- ---- what is shown of live elements whose indices are keys or none
keys_of_live : (live : List ElementValue) → HaveKeysOrNone live
    → AreBetween None None (length (map index_of (in_scene_order live))) (repaired (map index_of (in_scene_order live)))
keys_of_live live h =
    repaired-law (map index_of (in_scene_order live))
    (list_all-permuted is_key_or_none (map index_of live) (map index_of (in_scene_order live))
    (IsPermutation-map index_of live (in_scene_order live) (IsPermutation-in_scene_order live)) h)

record IsPlaced (live elements : List ElementValue) : Type 0 where
  pub keys : HaveRisingKeys elements
  pub along : ids_of elements ≡ ids_of (in_scene_order live)
  pub ids : IsPermutation (ids_of live) (ids_of elements)
  pub others : IsPermutation (map without_index live) (map without_index elements)
  pub stay_live : list_all is_live live ≡ true → list_all is_live elements ≡ true

placed-is : (live : List ElementValue) → HaveKeysOrNone live → IsPlaced live (placed live)
unfolding placed
placed-is live h =
    let ordered = in_scene_order live in
    let keys = repaired (map index_of ordered) in
    let moved = IsPermutation-in_scene_order live in
    let are = keys_of_live live h in
    let count : length keys ≡ length ordered = are.count ∙ length-map ordered index_of in
    record {
      keys = record { keys = keys; each = indices-keyed ordered keys count; rise = are.rise };
      along = ids_of-keyed ordered keys count;
      ids = subst (IsPermutation (ids_of live)) (sym (ids_of-keyed ordered keys count))
          (IsPermutation-map (λ (e : ElementValue). e.id) live ordered moved);
      others = subst (IsPermutation (map without_index live)) (sym (others-keyed ordered keys count))
          (IsPermutation-map without_index live ordered moved);
      stay_live = λ all. live-keyed ordered keys (list_all-permuted is_live live ordered moved all);
    }

-- ---- the order of the elements plays no part
placed-permuted : (live others : List ElementValue) → HaveDistinctIds live → IsPermutation live others
    → placed others ≡ placed live
unfolding placed
placed-permuted live others apart moved =
    ap (λ ordered. keyed ordered (repaired (map index_of ordered)))
    (in_order-permuted scene_order live others apart moved)

-- ---- elements that are placed stay in their places
placed-rising : (es : List ElementValue) → HaveDistinctIds es → HaveRisingKeys es → placed es ≡ es
unfolding placed
placed-rising es apart h =
    let sorted : in_scene_order es ≡ es =
    sym (in_order-only scene_order es es apart (IsPermutation-refl es) (AreInSceneOrder-from_keys es h)) in
    ap (λ ordered. keyed ordered (repaired (map index_of ordered))) sorted ∙ keyed-rising es h

all_pass : {X : Type 0} (p : X → Bool) (xs : List X) → list_all p xs ≡ true → filter p xs ≡ xs
all_pass p [] h = refl
all_pass p (x ∷ xs) h =
    let both = and_parts (p x) (list_all p xs) h in
    cond-true (p x) (x ∷ filter p xs) (filter p xs) both.0 ∙ ap (λ ys. x ∷ ys) (all_pass p xs both.1)

-- the live ones of elements that came in scene order
pub given-ordered : (stored given : List ElementValue) → HaveDistinctIds (live_elements stored)
    → ((e : ElementValue) → Contains given e → Contains stored e)
    → ((e : ElementValue) → Contains stored e → Contains given e)
    → AreInSceneOrder given → filter is_live given ≡ in_scene_order (live_elements stored)
given-ordered stored given apart to back h =
    in_order-same scene_order (live_elements stored) (filter is_live given) apart
    (λ e c. let among = filter-Contains is_live given e c in Contains-filter is_live stored e (to e among.0) among.1)
    (λ e c. let among = filter-Contains is_live stored e c in Contains-filter is_live given e (back e among.0) among.1)
    (AllPairs-filter (λ e f. comes_before e f ≡ true) is_live given h)

-- ---- what is shown of live elements
list_all-of : {X : Type 0} (p : X → Bool) (xs : List X) → list_all p xs ≡ list_all (λ (b : Bool). b) (map p xs)
list_all-of p [] = refl
list_all-of p (x ∷ xs) = ap (λ b. p x && b) (list_all-of p xs)

-- what settling leaves as it is is the same of what is shown and of what was placed
same_part : {A : Type 0} (part : ElementValue → A) (live : List ElementValue)
    → map (λ e. part (unsettled e)) (shown live) ≡ map (λ e. part (unsettled e)) (placed live)
unfolding shown
same_part part live = map-less unsettled part (settled (placed live)) (placed live) (unsettled-settled (placed live))

pub shown-keys : (live : List ElementValue) → HaveKeysOrNone live → HaveRisingKeys (shown live)
shown-keys live h =
    let keys = (placed-is live h).keys in
    record { keys = keys.keys; each = same_part index_of live ∙ keys.each; rise = keys.rise }

pub record IsShown (live elements : List ElementValue) : Type 0 where
  pub along : ids_of elements ≡ ids_of (in_scene_order live)
  pub ids : IsPermutation (ids_of live) (ids_of elements)
  pub others : IsPermutation (map bare live) (map bare elements)
  pub stay_live : list_all is_live live ≡ true → list_all is_live elements ≡ true

pub shown-is : (live : List ElementValue) → HaveKeysOrNone live → IsShown live (shown live)
shown-is live h =
    let is = placed-is live h in
    let ids : ids_of (shown live) ≡ ids_of (placed live) = same_part (λ (e : ElementValue). e.id) live in
    let others = IsPermutation-map unsettled (map without_index live) (map without_index (placed live)) is.others in
    record {
      along = ids ∙ is.along;
      ids = subst (IsPermutation (ids_of live)) (sym ids) is.ids;
      others = subst₂ IsPermutation (map-map unsettled without_index live)
          (map-map unsettled without_index (placed live) ∙ sym (same_part without_index live)) others;
      stay_live = λ all. list_all-of is_live (shown live) ∙ (ap (list_all (λ (b : Bool). b)) (same_part is_live live)
          ∙ (sym (list_all-of is_live (placed live)) ∙ is.stay_live all));
    }

pub keyed-distinct : (es : List ElementValue) → HaveDistinctIds es → HaveKeysOrNone es
    → HaveDistinctIds (keyed es (repaired (map index_of es)))
keyed-distinct es apart h =
    subst (IsDistinct bytes_eq)
    (sym (ids_of-keyed es (repaired (map index_of es)) ((repaired-law (map index_of es) h).count
    ∙ length-map es index_of))) apart

-- what is shown of the elements, where they stand in scene order
pub shown-ordered : (live ordered : List ElementValue) → ordered ≡ in_scene_order live
    → settled (keyed ordered (repaired (map index_of ordered))) ≡ shown live
unfolding shown placed
shown-ordered live ordered h = ap (λ es. settled (keyed es (repaired (map index_of es)))) h

pub ordered-distinct : (live ordered : List ElementValue) → ordered ≡ in_scene_order live → HaveDistinctIds live
    → HaveDistinctIds ordered
ordered-distinct live ordered h apart =
    rw h (HaveDistinctIds-permuted live (in_scene_order live) (IsPermutation-in_scene_order live) apart)

pub placed-distinct : (live : List ElementValue) → HaveDistinctIds live → HaveKeysOrNone live
    → HaveDistinctIds (placed live)
placed-distinct live apart h =
    IsDistinct-IsPermutation bytes_eq nat_list_eq_equiv.symm (ids_of live) (ids_of (placed live)) (placed-is live h).ids
    apart

pub shown-settled : (live : List ElementValue) → HaveDistinctIds live → HaveKeysOrNone live → AreSettled (shown live)
unfolding shown
shown-settled live apart h = settled-are (placed live) (placed-distinct live apart h)

-- ---- the order of the elements plays no part
pub shown-permuted : (live others : List ElementValue) → HaveDistinctIds live → IsPermutation live others
    → shown others ≡ shown live
unfolding shown
shown-permuted live others apart moved = ap settled (placed-permuted live others apart moved)

-- ---- the view of a view is that view
shown-shown : (live : List ElementValue) → HaveDistinctIds live → HaveKeysOrNone live → HaveDistinctIds (shown live)
    → shown (shown live) ≡ shown live
unfolding shown
shown-shown live apart h distinct =
    ap settled (placed-rising (shown live) distinct (shown-keys live h))
    ∙ settled-again (placed live) (placed-distinct live apart h)

pub shown-again : (live others : List ElementValue) → HaveDistinctIds live → HaveKeysOrNone live
    → list_all is_live live ≡ true → IsPermutation (shown live) others
    → shown (live_elements others) ≡ shown live
shown-again live others apart h all moved =
    let is = shown-is live h in
    let distinct : HaveDistinctIds (shown live) =
    IsDistinct-IsPermutation bytes_eq nat_list_eq_equiv.symm (ids_of live) (ids_of (shown live)) is.ids apart in
    let passed : live_elements others ≡ others =
    all_pass is_live others (list_all-permuted is_live (shown live) others moved (is.stay_live all)) in
    ap shown passed ∙ (shown-permuted (shown live) others distinct moved ∙ shown-shown live apart h distinct)

-- ---- for the code
pub record IsViewOf (live elements : List ElementValue) : Type 0 where
  pub keys : HaveRisingKeys elements
  pub order : (ordered : List ElementValue) × IsSceneOrder live ordered × (ids_of elements ≡ ids_of ordered)
  pub ids : IsPermutation (ids_of live) (ids_of elements)
  pub others : IsPermutation (map bare live) (map bare elements)
  pub are_settled : AreSettled elements
  pub again : (stored : List ElementValue) → IsPermutation elements stored → shown (live_elements stored) ≡ elements

pub IsViewOf-from : (live elements : List ElementValue) → IsView live elements → IsViewOf live elements
IsViewOf-from live elements view =
    let is = shown-is live view.keys in
    let apart = HaveDistinctIds-rising live view.ordered in
    subst (IsViewOf live) (sym view.exact) (record {
      keys = shown-keys live view.keys;
      order = (in_scene_order live, in_scene_order-is live apart, is.along);
      ids = is.ids;
      others = is.others;
      are_settled = shown-settled live apart view.keys;
      again = λ stored moved. shown-again live stored apart view.keys view.all_live moved;
    })

-- live elements, one more place of a list each time
module _ (stored : List ElementValue) (i : ℕ) (e : ElementValue) (at' : Some e ≡ slice_get stored i) where
  one_more : live_elements (take (i + 1) stored) ≡ live_elements (take i stored) ++ cond (is_live e) (e ∷ []) []
  one_more =
      let there : get_or stored i e ≡ e = get_or_from_slice_get stored i e e (sym at') in
      filter_more is_live stored i e (slice_get_within stored i e (sym at'))
      ∙ ap (λ (f : ElementValue). live_elements (take i stored) ++ cond (is_live f) (f ∷ []) []) there

  pub live_one : (live new : List ElementValue) (copy : ElementValue) → is_live e ≡ true
      → live ≡ live_elements (take i stored) → copy ≡ e → new ≡ live ++ copy ∷ []
      → new ≡ live_elements (take (i + 1) stored)
  live_one live new copy h so_far same pushed =
      pushed ∙ (ap₂ (λ ls (l : ElementValue). ls ++ l ∷ []) so_far same
      ∙ (ap (λ more. live_elements (take i stored) ++ more) (sym (cond-true (is_live e) (e ∷ []) [] h))
      ∙ sym one_more))

  pub deleted_one : (live : List ElementValue) → is_live e ≡ false → live ≡ live_elements (take i stored)
      → live ≡ live_elements (take (i + 1) stored)
  deleted_one live h so_far =
      so_far ∙ (sym (append-nil (live_elements (take i stored)))
      ∙ (ap (λ more. live_elements (take i stored) ++ more) (sym (cond-false (is_live e) (e ∷ []) [] h))
      ∙ sym one_more))

pub live_elements-live : (stored : List ElementValue) → list_all is_live (live_elements stored) ≡ true
live_elements-live stored = list_all-from_AllPass is_live (live_elements stored) (filter_passes is_live stored)

-- where the elements in scene order have keys or none, they have in any order
pub keys-placed : (live : List ElementValue) → HaveKeysOrNone (in_scene_order live) → HaveKeysOrNone live
keys-placed live h =
    let moved = IsPermutation-map index_of live (in_scene_order live) (IsPermutation-in_scene_order live) in
    list_all-permuted is_key_or_none (map index_of (in_scene_order live)) (map index_of live)
    (IsPermutation-sym _ _ moved) h
