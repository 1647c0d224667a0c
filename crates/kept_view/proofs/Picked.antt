-- Elements of some ids, in scene order, are those of all of them in scene order that are of these ids.
use Rattle.std.proofs.Common.{◌≡◌, ℕ, ◌+◌, ◌<◌, Bool, true, false, List, [], ◌∷◌, ◌++◌, length, take, get_or, map, filter, filter_map, Option, Some, None, Ordering, is_lt, Contains, bytes_eq, refl, sym, ap, ap₂, ◌∙◌, subst, inl, inr, append-nil, arith}
use Rattle.std.specs.List.{AllByRecursion, IsDistinct, cons_option}
use Rattle.std.specs.List.Sorted.{IsStrictlySortedBy}
use Rattle.std.specs.declared.cmp.Ordering.TheVariants.{Less, Equal, Greater}
use Rattle.std.proofs.Math.ListN.{get_or-map}
use Rattle.std.proofs.lemmas.Bool.{cases_Bool, or_left, or_right}
use Rattle.std.proofs.lemmas.List.{length-map, take_more}
use Rattle.std.proofs.lemmas.List.Elements.{filter_map-append}
use Rattle.std.proofs.lemmas.List.Kept.{AllPairs-filter}
use Rattle.std.proofs.lemmas.List.Sorted.{IsPermutation-sym, Contains-permutation}
use Rattle.std.proofs.lemmas.Map.Keys.{sorted_from_all_adjacent}
use Rattle.std.proofs.lemmas.Option.{same_Some}
use Rattle.std.proofs.lemmas.Slice.Eq.{bytes_eq-Decides}
use Rattle.frac_keys.specs.Rising.{are_rising}
use Rattle.elem.specs.ElementValue.{ElementValue}
use Rattle.elem.specs.Order.{has_id, HaveDistinctIds}
use Rattle.elem_store.specs.Updates.{element_of, ids_of, is_among}
use Rattle.elem_store.proofs.CallerLemmas.{same_id, Contains-head, Contains-cons, Contains-cases, Contains-filter, find-Some, member}
use Rattle.index_repair.specs.Keyed.{index_of}
use Rattle.view.specs.Shown.{comes_before, place_less, in_scene_order, AreInSceneOrder}
use Rattle.view.proofs.CallerLemmas.{AllPairs-in_order, same_sorted, place_cmp, place_cmp-total, comes_before-cmp, scene_order, IsPermutation-in_scene_order, HaveDistinctIds-rising}
use Rattle.std.specs.Option.{option_or}
use Rattle.std.proofs.lemmas.Map.Views.{Contains-from_any}
use Rattle.json_text.proofs.CallerLemmas.{bytes_eq-true}
use Rattle.kept_view.specs.inner.Replacing.{element_after}

-- ---- what is found for some ids
abbrev IsFrom : (List ℕ → Option ElementValue) → List (List ℕ) → ElementValue → Type 0
IsFrom g ids z = (id : List ℕ) × Contains ids id × (g id ≡ Some z)

from-later : (g : List ℕ → Option ElementValue) (i : List ℕ) (ids : List (List ℕ)) (z : ElementValue) → IsFrom g ids z
    → IsFrom g (i ∷ ids) z
from-later g i ids z later = (later.0, Contains-cons i ids later.0 later.1, later.2)

from-first : (g : List ℕ → Option ElementValue) (i : List ℕ) (ids : List (List ℕ)) (z : ElementValue)
    (o : Option ElementValue) → g i ≡ o → (Contains (filter_map g ids) z → IsFrom g ids z)
    → Contains (cons_option o (filter_map g ids)) z → IsFrom g (i ∷ ids) z
from-first g i ids z None is later c = from-later g i ids z (later c)
from-first g i ids z (Some x) is later c = elim (Contains-cases x (filter_map g ids) z c) [
  | inl same ↦ (i, Contains-head i ids, is ∙ ap Some same)
  | inr more ↦ from-later g i ids z (later more)
]

picked-from : (g : List ℕ → Option ElementValue) (ids : List (List ℕ)) (z : ElementValue)
    → Contains (filter_map g ids) z → IsFrom g ids z
picked-from g [] z c = absurd (omega (arith, c.1))
picked-from g (id ∷ ids) z c = from-first g id ids z (g id) refl (λ d. picked-from g ids z d) c

to-later : (o : Option ElementValue) (es : List ElementValue) (z : ElementValue) → Contains es z
    → Contains (cons_option o es) z
to-later None es z c = c
to-later (Some x) es z c = Contains-cons x es z c

picked-to : (g : List ℕ → Option ElementValue) (ids : List (List ℕ)) (id : List ℕ) (z : ElementValue) → Contains ids id
    → g id ≡ Some z → Contains (filter_map g ids) z
picked-to g [] id z c is = absurd (omega (arith, c.1))
picked-to g (i ∷ ids) id z c is = elim (Contains-cases i ids id c) [
  | inl same ↦ subst (λ o. Contains (cons_option o (filter_map g ids)) z) (sym (ap g same ∙ is))
      (Contains-head z (filter_map g ids))
  | inr more ↦ to-later (g i) (filter_map g ids) z (picked-to g ids id z more is)
]

among-to : (ids : List (List ℕ)) (id : List ℕ) → Contains ids id → is_among ids id ≡ true
among-to [] id c = absurd (omega (arith, c.1))
among-to (i ∷ ids) id c = elim (Contains-cases i ids id c) [
  | inl same ↦ or_left (bytes_eq id i) (is_among ids id) ((bytes_eq-Decides id i).1 (sym same))
  | inr more ↦ or_right (bytes_eq id i) (is_among ids id) (among-to ids id more)
]

-- elements that are found by their ids
module _ (g : List ℕ → Option ElementValue) (named : (id : List ℕ) (x : ElementValue) → g id ≡ Some x → id ≡ x.id) where
  apart-picked : (n : List ℕ) (ids : List (List ℕ)) → AllByRecursion (λ other. bytes_eq n other ≡ false) ids
      → AllByRecursion (λ other. bytes_eq n other ≡ false) (ids_of (filter_map g ids))
  apart-picked n [] all = tt
  apart-picked n (id ∷ ids) all = by (g id) refl (apart-picked n ids all.1) where
    by : (o : Option ElementValue) → g id ≡ o
        → AllByRecursion (λ other. bytes_eq n other ≡ false) (ids_of (filter_map g ids))
        → AllByRecursion (λ other. bytes_eq n other ≡ false) (ids_of (cons_option o (filter_map g ids)))
    by None is rest = rest
    by (Some x) is rest = (ap (bytes_eq n) (sym (named id x is)) ∙ all.0, rest)

  pub distinct-picked : (ids : List (List ℕ)) → IsDistinct bytes_eq ids → HaveDistinctIds (filter_map g ids)
  unfolding IsDistinct
  distinct-picked [] apart = tt
  distinct-picked (id ∷ ids) apart = by (g id) refl (distinct-picked ids apart.1) where
    by : (o : Option ElementValue) → g id ≡ o → HaveDistinctIds (filter_map g ids)
        → HaveDistinctIds (cons_option o (filter_map g ids))
    by None is rest = rest
    by (Some x) is rest = (
      subst (λ n. AllByRecursion (λ other. bytes_eq n other ≡ false) (ids_of (filter_map g ids)))
          (named id x is) (apart-picked id ids apart.0),
      rest,
    )

named-element : (elements : List ElementValue) (id : List ℕ) (x : ElementValue) → element_of elements id ≡ Some x
    → id ≡ x.id
named-element elements id x is = same_id id x (find-Some (has_id id) elements x is).1

pub distinct-after : (live news : List ElementValue) (ids : List (List ℕ)) → IsDistinct bytes_eq ids
    → HaveDistinctIds (filter_map (element_after live news) ids)
distinct-after live news ids apart =
    distinct-picked (element_after live news) (λ id x is. by id x (element_of news id) refl is) ids apart where
      by : (id : List ℕ) (x : ElementValue) (o : Option ElementValue) → element_of news id ≡ o
          → option_or o (element_of live id) ≡ Some x → id ≡ x.id
      by id x None at' is = named-element live id x is
      by id x (Some y) at' is = named-element news id y at' ∙ ap (λ (z : ElementValue). z.id) (same_Some y x is)

-- ---- elements in scene order
from_is_lt : (o : Ordering) → is_lt o ≡ true → o ≡ Less
from_is_lt Less h = refl
from_is_lt Equal h = cc
from_is_lt Greater h = cc

sorted-pairs : (es : List ElementValue) → AreInSceneOrder es → IsStrictlySortedBy place_cmp es
unfolding IsStrictlySortedBy
sorted-pairs [] h = tt
sorted-pairs (e ∷ es) h =
    sorted_from_all_adjacent place_cmp-total (e ∷ es) e
    (λ k l. from_is_lt _ (sym (comes_before-cmp (get_or (e ∷ es) k e) (get_or (e ∷ es) (k + 1) e))
    ∙ h k (k + 1) e (omega arith) l))

-- lists in scene order with the same elements are the same
pub same-in_order : (es fs : List ElementValue) → AreInSceneOrder es → AreInSceneOrder fs
    → ((z : ElementValue) → Contains es z → Contains fs z) → ((z : ElementValue) → Contains fs z → Contains es z)
    → es ≡ fs
same-in_order es fs h k to back = same_sorted place_cmp-total es fs (sorted-pairs es h) (sorted-pairs fs k) to back

-- lists with the same ids and indices are both in scene order
pub pairs-alike : (es fs : List ElementValue) → ids_of es ≡ ids_of fs → map index_of es ≡ map index_of fs
    → AreInSceneOrder es → AreInSceneOrder fs
pairs-alike es fs ids indices h i j d l m =
    let among : j < length es = omega (
      arith,
      m,
      length-map es (λ (e : ElementValue). e.id),
      length-map fs (λ (e : ElementValue). e.id),
      ap length ids,
    ) in
    (λ k. place_less (index i k) (id i k) (index j k) (id j k)) ∙ h i j d l among
  where
    id : (n : ℕ) → (get_or fs n d).id ≡ (get_or es n d).id
    id n = sym (get_or-map (λ (e : ElementValue). e.id) fs n d) ∙ ap (λ xs. get_or xs n d.id) (sym ids)
        ∙ get_or-map (λ (e : ElementValue). e.id) es n d

    index : (n : ℕ) → (get_or fs n d).index ≡ (get_or es n d).index
    index n =
        sym (get_or-map index_of fs n d) ∙ ap (λ xs. get_or xs n d.index) (sym indices) ∙ get_or-map index_of es n d

pub picked-in_order : (elements : List ElementValue) (ids : List (List ℕ)) → are_rising (ids_of elements) ≡ true
    → IsDistinct bytes_eq ids
    → in_scene_order (filter_map (element_of elements) ids)
    ≡ filter (λ (e : ElementValue). is_among ids e.id) (in_scene_order elements)
picked-in_order elements ids rising apart =
    let picked = filter_map (element_of elements) ids in
    let p : ElementValue → Bool = λ e. is_among ids e.id in
    let distinct = distinct-picked (element_of elements) (named-element elements) ids apart in
    same-in_order (in_scene_order picked) (filter p (in_scene_order elements))
    (AllPairs-in_order scene_order picked distinct)
    (AllPairs-filter (λ e f. comes_before e f ≡ true) p (in_scene_order elements)
    (AllPairs-in_order scene_order elements (HaveDistinctIds-rising elements rising)))
    (λ z c.
    let found = picked-from (element_of elements) ids z
    (Contains-permutation _ picked z (IsPermutation-sym _ _ (IsPermutation-in_scene_order picked)) c) in
    let there = (find-Some (has_id found.0) elements z found.2).0 in
    Contains-filter p (in_scene_order elements) z
    (Contains-permutation elements _ z (IsPermutation-in_scene_order elements) there)
    (ap (is_among ids) (sym (named-element elements found.0 z found.2)) ∙ among-to ids found.0 found.1))
    (λ z c.
    let both = in-filter p (in_scene_order elements) z c in
    let there =
    Contains-permutation _ elements z (IsPermutation-sym _ _ (IsPermutation-in_scene_order elements)) both.0 in
    Contains-permutation picked _ z (IsPermutation-in_scene_order picked)
    (picked-to (element_of elements) ids z.id z (Contains-from_any bytes_eq-true z.id ids both.1)
    (member None None elements z rising there)))
  where
    in-filter : (p : ElementValue → Bool) (xs : List ElementValue) (z : ElementValue) → Contains (filter p xs) z
        → Contains xs z × (p z ≡ true)
    in-filter p [] z c = absurd (omega (arith, c.1))
    in-filter p (x ∷ xs) z c = elim (cases_Bool (p x)) [
      | inl is ↦ elim (Contains-cases x (filter p xs) z (rw is at c)) [
        | inl same ↦ (subst (Contains (x ∷ xs)) same (Contains-head x xs), ap p (sym same) ∙ is)
        | inr more ↦ let later = in-filter p xs z more in (Contains-cons x xs z later.0, later.1)
      ]
      | inr not ↦ let later = in-filter p xs z (rw not at c) in (Contains-cons x xs z later.0, later.1)
    ]

-- ---- what is found, one more each time
module _ {X : Type 0} (g : X → Option ElementValue) (xs : List X) (i : ℕ) (x : X) (within : i < length xs) (there : x
    ≡ get_or xs i x) (found : List ElementValue) (so_far : found ≡ filter_map g (take i xs)) where
  one_more : filter_map g (take (i + 1) xs) ≡ filter_map g (take i xs) ++ cons_option (g x) []
  one_more = ap (filter_map g) (take_more xs i x within ∙ ap (λ y. take i xs ++ y ∷ []) (sym there))
      ∙ filter_map-append g (take i xs) (x ∷ [])

  pub found-more : (new : List ElementValue) (e copy : ElementValue) → Some e ≡ g x → copy ≡ e
      → new ≡ found ++ copy ∷ [] → new ≡ filter_map g (take (i + 1) xs)
  found-more new e copy is same pushed =
      pushed ∙ ap₂ (λ es (f : ElementValue). es ++ f ∷ []) so_far same
      ∙ ap (λ o. filter_map g (take i xs) ++ cons_option o []) is ∙ sym one_more

  pub none-more : None ≡ g x → found ≡ filter_map g (take (i + 1) xs)
  none-more is = so_far ∙ sym (append-nil (filter_map g (take i xs)))
      ∙ ap (λ o. filter_map g (take i xs) ++ cons_option o []) is ∙ sym one_more
