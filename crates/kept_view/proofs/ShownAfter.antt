-- What is shown after elements took the places of those of their ids, with the same indices: what is far from them
-- stays.
use Rattle.std.proofs.Common.{◌≡◌, ◌⊎◌, ℕ, suc, Bool, true, false, not, cond, List, [], ◌∷◌, length, map, filter, filter_map, Option, Some, None, Contains, bytes_eq, refl, sym, ap, ap₂, ◌∙◌, subst, inl, inr, arith}
use Rattle.std.specs.List.{AllByRecursion, IsDistinct, list_all}
use Rattle.std.specs.List.Sorted.{IsPermutation}
use Rattle.std.specs.Option.{option_map, option_or, unwrap_or}
use Rattle.std.proofs.lemmas.Bool.{cases_Bool, both_ways, and_from, and_parts, false_from_ne_true}
use Rattle.std.proofs.lemmas.List.Elements.{All-contains, All-from_recursion, recursion_from_All}
use Rattle.std.proofs.lemmas.List.Sums.{AllPass-from_list_all}
use Rattle.std.proofs.lemmas.List.Sorted.{IsPermutation-sym, IsPermutation-map, Contains-permutation, All-permutation}
use Rattle.frac_keys.specs.Rising.{are_rising, is_key_or_none}
use Rattle.index_repair.specs.Repair.{repaired}
use Rattle.elem.specs.ElementValue.{ElementValue}
use Rattle.elem.specs.Order.{has_id, HaveDistinctIds}
use Rattle.elem_store.specs.Updates.{element_of, ids_of, is_among}
use Rattle.elem_store.proofs.CallerLemmas.{same_id, find-Some, Contains-head, Contains-cons, Contains-cases}
use Rattle.links.proofs.CallerLemmas.{Contains-map, distinct-among, map-map}
use Rattle.view.specs.Settled.{settled, unsettled}
use Rattle.index_repair.specs.Keyed.{index_of, with_index, keyed, HaveKeysOrNone}
use Rattle.view.specs.Shown.{is_live, in_scene_order, without_index, placed, shown, as_stored, IsView}
use Rattle.view.specs.Steps.{is_framed, settled_of, settled_but_for_key, HasAllSeenFramed}
use Rattle.view.proofs.CallerLemmas.{AllPairs-in_order, HaveDistinctIds-permuted, in_order-only, scene_order, IsPermutation-in_scene_order, distinct-settled, unsettled-settled, HaveDistinctIds-rising, placed-distinct, settled-keys, settled-looks, settled-seen, others-keyed}
use Rattle.kept_view.specs.declared.places.Put.{Put}
use Rattle.kept_view.specs.inner.Putting.{puts_of, IsInPlace, all_put}
use Rattle.kept_view.specs.inner.Reached.{AreStartedBy, IsStartedBy}
use Rattle.kept_view.specs.inner.Replacing.{element_after, AreRepairs, HaveReplaced}
use Rattle.kept_view.proofs.ByIds.{same-by_ids}
use Rattle.kept_view.proofs.Framed.{AreKindsKept, framed-alike, kinds-replaced}
use Rattle.kept_view.proofs.Picked.{pairs-alike, picked-in_order}
use Rattle.kept_view.proofs.PlacedLaws.{keys-count, shown-distinct}
use Rattle.kept_view.proofs.PuttingLaws.{ids-all_put, indices-all_put, element-all_put}
use Rattle.kept_view.proofs.ReachedLaws.{IsOneOf, AreOf, placed-far, started-near, surrounded-near}
use Rattle.kept_view.proofs.Untouched.{element-map, same_option, index-settled, all-shown}

-- ---- lists and options
-- lists with the same ids and indices have the same index of each id
pub index-by_ids : (es fs : List ElementValue) (id : List ℕ) → ids_of es ≡ ids_of fs → map index_of es ≡ map index_of fs
    → option_map index_of (element_of es id) ≡ option_map index_of (element_of fs id)
index-by_ids [] [] id ids indices = refl
index-by_ids [] (f ∷ fs) id ids indices = cc
index-by_ids (e ∷ es) [] id ids indices = cc
index-by_ids (e ∷ es) (f ∷ fs) id ids indices =
    let same : e.id ≡ f.id = cc in
    let index : e.index ≡ f.index = cc in
    let rest = index-by_ids es fs id (cc) (cc) in
    elim (cases_Bool (has_id id e)) [
      | inl own ↦ rw (own, sym (ap (bytes_eq id) same) ∙ own) (ap Some index)
      | inr other ↦ rw (other, sym (ap (bytes_eq id) same) ∙ other) rest
    ]

-- an element of a list is one of another list that is the same but for something
pub one-of-same : {A : Type 0} (part : ElementValue → A) (es fs : List ElementValue) → map part es ≡ map part fs
    → (e : ElementValue) → Contains es e → (f : ElementValue) × Contains fs f × (part e ≡ part f)
one-of-same part [] fs same e c = absurd (omega (arith, c.1))
one-of-same part (x ∷ es) [] same e c = cc
one-of-same part (x ∷ es) (y ∷ fs) same e c =
    let first : part x ≡ part y = cc in
    elim (Contains-cases x es e c) [
      | inl is ↦ (y, Contains-head y fs, ap part (sym is) ∙ first)
      | inr more ↦ let later =
          one-of-same part es fs (cc) e more in (later.0, Contains-cons y fs later.0 later.1, later.2)
    ]

pub element-filter : (q : List ℕ → Bool) (es : List ElementValue) (id : List ℕ)
    → element_of (filter (λ (e : ElementValue). q e.id) es) id ≡ cond (q id) (element_of es id) None
element-filter q [] id =
    elim (q id) as (λ (b : Bool). element_of [] id ≡ cond b (element_of [] id) None) [ true ↦ refl | false ↦ refl ]
element-filter q (e ∷ es) id =
    elim (cases_Bool (has_id id e)) [
      | inl own ↦
          let same : q e.id ≡ q id = ap q (sym (same_id id e own)) in
          elim (cases_Bool (q id)) [
            | inl is ↦ ap (λ b. element_of (cond b (e ∷ filter (λ (f : ElementValue). q f.id) es)
                (filter (λ (f : ElementValue). q f.id) es)) id) (same ∙ is)
                ∙ ap (λ b. cond b (Some e) (element_of (filter (λ (f : ElementValue). q f.id) es) id)) own
                ∙ sym (ap (λ b. cond b (element_of (e ∷ es) id) None) is
                ∙ ap (λ b. cond b (Some e) (element_of es id)) own)
            | inr off ↦ ap (λ b. element_of (cond b (e ∷ filter (λ (f : ElementValue). q f.id) es)
                (filter (λ (f : ElementValue). q f.id) es)) id) (same ∙ off) ∙ element-filter q es id
                ∙ ap (λ b. cond b (element_of es id) None) off
                ∙ sym (ap (λ b. cond b (element_of (e ∷ es) id) None) off)
          ]
      | inr other ↦ elim (cases_Bool (q e.id)) [
        | inl is ↦ rw (is, other) (element-filter q es id)
        | inr off ↦ rw (off, other) (element-filter q es id)
      ]
    ]

-- what is joined of two options and a third one
joined : (o s t : Option ElementValue) → option_map without_index o ≡ option_map without_index t
    → option_map index_of (option_or o s) ≡ option_map index_of t → option_or o s ≡ t
joined (Some e) s t others index = same_option (Some e) t others index
joined None None None others index = refl
joined None (Some e) None others index = cc
joined None s (Some e) others index = cc

-- ---- one list of elements that take the places of others
module _ (news : List ElementValue) where
  by-new : (o : Option ElementValue) (e : ElementValue) → element_of news e.id ≡ o → (unwrap_or o e).id ≡ e.id
  by-new None e is = refl
  by-new (Some n) e is = sym (same_id e.id n (find-Some (has_id e.id) news n is).1)

  id-new : (e : ElementValue) → (as_stored news e).id ≡ e.id
  id-new e = by-new (element_of news e.id) e refl

  ids-new : (es : List ElementValue) → ids_of (map (as_stored news) es) ≡ ids_of es
  ids-new [] = refl
  ids-new (e ∷ es) = ap₂ (λ id ids. id ∷ ids) (id-new e) (ids-new es)

  -- an element of an id of no new one stays
  module _ (start : List (List ℕ)) (started : AreStartedBy start news) where
    stays-as : (o : Option ElementValue) (e : ElementValue) → element_of news e.id ≡ o → is_among start e.id ≡ false
        → unwrap_or o e ≡ e
    stays-as None e is out = refl
    stays-as (Some n) e is out =
        let found = find-Some (has_id e.id) news n is in
        let begins : IsStartedBy start n = All-contains (IsStartedBy start) news n started found.0 in
        let there = begins.0 in
        absurd (both_ways (is_among start e.id) out (ap (is_among start) (same_id e.id n found.1) ∙ there))

    new-stays : (e : ElementValue) → is_among start e.id ≡ false → as_stored news e ≡ e
    new-stays e out = stays-as (element_of news e.id) e refl out

    more : (x : ElementValue) (es fs : List ElementValue)
        → map without_index (filter (λ (e : ElementValue). not (is_among start e.id)) es)
        ≡ map without_index (filter (λ (e : ElementValue). not (is_among start e.id)) fs)
        → map without_index (filter (λ (e : ElementValue). not (is_among start e.id)) (x ∷ es))
        ≡ map without_index (filter (λ (e : ElementValue). not (is_among start e.id)) (x ∷ fs))
    more x es fs same = elim (not (is_among start x.id)) as
        (λ b. map without_index (cond b (x ∷ filter (λ (e : ElementValue). not (is_among start e.id)) es)
        (filter (λ (e : ElementValue). not (is_among start e.id)) es))
        ≡ map without_index (cond b (x ∷ filter (λ (e : ElementValue). not (is_among start e.id)) fs)
        (filter (λ (e : ElementValue). not (is_among start e.id)) fs))) [
          | true ↦ ap (λ rest. without_index x ∷ rest) same
          | false ↦ same
        ]

    -- the elements of other ids are the same
    same-others : (es : List ElementValue) (keys : List (List ℕ))
        → map without_index (filter (λ (e : ElementValue). not (is_among start e.id)) (keyed es keys))
        ≡ map without_index (filter (λ (e : ElementValue). not (is_among start e.id))
        (keyed (map (as_stored news) es) keys))
    same-others [] keys = refl
    same-others (e ∷ es) [] = refl
    same-others (e ∷ es) (key ∷ keys) =
        let p : ElementValue → Bool = λ e. not (is_among start e.id) in
        let rest = same-others es keys in
        elim (cases_Bool (is_among start e.id)) [
          | inl is ↦
              let also : is_among start (as_stored news e).id ≡ true = ap (is_among start) (id-new e) ∙ is in
              ap (λ b. map without_index (cond (not b) (with_index e key ∷ filter p (keyed es keys))
              (filter p (keyed es keys)))) is
              ∙ rest
              ∙ sym
              (ap (λ b. map without_index (cond (not b) (with_index (as_stored news e) key
              ∷ filter p (keyed (map (as_stored news) es) keys)) (filter p (keyed (map (as_stored news) es) keys))))
              also)
          | inr off ↦
              more (with_index e key) (keyed es keys) (keyed (map (as_stored news) es) keys) rest
              ∙ sym (ap (λ x. map without_index (filter p (with_index x key ∷ keyed (map (as_stored news) es) keys)))
              (new-stays e off))
        ]

    same-element : (es : List ElementValue) (keys : List (List ℕ)) (id : List ℕ) → is_among start id ≡ false
        → element_of (keyed es keys) id ≡ element_of (keyed (map (as_stored news) es) keys) id
    same-element [] keys id out = refl
    same-element (e ∷ es) [] id out = refl
    same-element (e ∷ es) (key ∷ keys) id out =
        elim (cases_Bool (has_id id e)) [
          | inl own ↦
              let stays = new-stays e (ap (is_among start) (sym (same_id id e own)) ∙ out) in
              ap (λ b. cond b (Some (with_index e key)) (element_of (keyed es keys) id)) own
              ∙ sym
              (ap (λ x. cond (has_id id x) (Some (with_index x key))
              (element_of (keyed (map (as_stored news) es) keys) id)) stays
              ∙ ap (λ b. cond b (Some (with_index e key)) (element_of (keyed (map (as_stored news) es) keys) id)) own)
          | inr other ↦
              ap (λ b. cond b (Some (with_index e key)) (element_of (keyed es keys) id)) other
              ∙ same-element es keys id out
              ∙ sym (ap (λ b. cond b (Some (with_index (as_stored news e) key))
              (element_of (keyed (map (as_stored news) es) keys) id)) (ap (bytes_eq id) (id-new e) ∙ other))
        ]

-- ---- elements of a view took the places of others
module _ (live drawn news : List ElementValue) (held : List Put) (view : IsView live drawn)
    (ordered : are_rising (ids_of news) ≡ true) (live_news : list_all is_live news ≡ true)
    (are : puts_of held ≡ news) (in_place : AllByRecursion (IsInPlace live) held) where
  apart : HaveDistinctIds live
  apart = HaveDistinctIds-rising live view.ordered

  ids-after : ids_of (all_put held live) ≡ ids_of live
  ids-after = ids-all_put held live in_place

  indices-after : map index_of (all_put held live) ≡ map index_of live
  indices-after = indices-all_put held live in_place

  rising-after : are_rising (ids_of (all_put held live)) ≡ true
  rising-after = ap are_rising ids-after ∙ view.ordered

  apart-after : HaveDistinctIds (all_put held live)
  apart-after = HaveDistinctIds-rising (all_put held live) rising-after

  each-after : (id : List ℕ) → element_of (all_put held live) id ≡ element_after live news id
  each-after id =
      element-all_put held live id apart in_place
      (subst HaveDistinctIds (sym are) (HaveDistinctIds-rising news ordered))
      ∙ ap (λ es. option_or (element_of es id) (element_of live id)) are

  pub has-replaced : HaveReplaced live news (all_put held live)
  has-replaced = record { ordered = rising-after; each = each-after }

  -- each new one was held
  held-new : (id : List ℕ) → element_of live id ≡ None → element_of (all_put held live) id ≡ None
  held-new id none = by (element_of (all_put held live) id)
      (index-by_ids (all_put held live) live id ids-after indices-after ∙ ap (option_map index_of) none) where
        by : (o : Option ElementValue) → option_map index_of o ≡ None → o ≡ None
        by None is = refl
        by (Some e) is = cc

  after-is : all_put held live ≡ map (as_stored news) live
  after-is =
      same-by_ids (all_put held live) (map (as_stored news) live) apart-after
      (subst (IsDistinct bytes_eq) (sym (ids-new news live)) apart) (ids-after ∙ sym (ids-new news live))
      (λ id. by id (element_of live id) refl ∙ sym (element-map (as_stored news) (id-new news) live id))
    where
      by : (id : List ℕ) (o : Option ElementValue) → element_of live id ≡ o
          → element_of (all_put held live) id ≡ option_map (as_stored news) (element_of live id)
      by id None is = held-new id is ∙ sym (ap (option_map (as_stored news)) is)
      by id (Some e) is =
          let named : id ≡ e.id = same_id id e (find-Some (has_id id) live e is).1 in
          each-after id ∙ ap (option_or (element_of news id)) is
          ∙ ap (λ n. option_or (element_of news n) (Some e)) named ∙ one (element_of news e.id) e
          ∙ sym (ap (option_map (as_stored news)) is)
        where
          one : (o : Option ElementValue) (e : ElementValue) → option_or o (Some e) ≡ Some (unwrap_or o e)
          one None e = refl
          one (Some n) e = refl

  -- ---- the order and the keys stay
  pub indices-live : (es : List ElementValue) → map index_of (map (as_stored news) es) ≡ map index_of es
      → AllByRecursion (λ e. (as_stored news e).index ≡ e.index) es
  indices-live [] same = tt
  indices-live (e ∷ es) same = (cc, indices-live es (cc))

  indices-from : (es : List ElementValue) → AllByRecursion (λ e. (as_stored news e).index ≡ e.index) es
      → map index_of (map (as_stored news) es) ≡ map index_of es
  indices-from [] all = refl
  indices-from (e ∷ es) all = ap₂ (λ i is. i ∷ is) all.0 (indices-from es all.1)

  indices-ordered : map index_of (map (as_stored news) (in_scene_order live)) ≡ map index_of (in_scene_order live)
  indices-ordered =
      let P : ElementValue → Type 0 = λ e. (as_stored news e).index ≡ e.index in
      indices-from (in_scene_order live)
      (recursion_from_All P (in_scene_order live)
      (All-permutation P live (in_scene_order live) (IsPermutation-in_scene_order live)
      (All-from_recursion P live (indices-live live (ap (map index_of) (sym after-is) ∙ indices-after)))))

  order-after : in_scene_order (all_put held live) ≡ map (as_stored news) (in_scene_order live)
  order-after =
      let L = in_scene_order live in
      sym (in_order-only scene_order (all_put held live) (map (as_stored news) L) apart-after
      (subst (λ es. IsPermutation es (map (as_stored news) L)) (sym after-is)
      (IsPermutation-map (as_stored news) live L (IsPermutation-in_scene_order live)))
      (pairs-alike L (map (as_stored news) L) (sym (ids-new news L)) (sym indices-ordered)
      (AllPairs-in_order scene_order live apart)))

  count : length (repaired (map index_of (in_scene_order live))) ≡ length (in_scene_order live)
  count = keys-count live view.keys

  placed-live : placed live ≡ keyed (in_scene_order live) (repaired (map index_of (in_scene_order live)))
  unfolding placed
  placed-live = refl

  placed-after : placed (all_put held live) ≡ keyed (map (as_stored news) (in_scene_order live))
      (repaired (map index_of (in_scene_order live)))
  unfolding placed
  placed-after =
      ap (λ es. keyed es (repaired (map index_of es))) order-after
      ∙ ap (λ indices. keyed (map (as_stored news) (in_scene_order live)) (repaired indices)) indices-ordered

  keys_after : HaveKeysOrNone (all_put held live)
  keys_after = ap (list_all is_key_or_none) indices-after ∙ view.keys

  distinct-placed : HaveDistinctIds (placed live)
  distinct-placed = placed-distinct live apart view.keys

  distinct-placed_after : HaveDistinctIds (placed (all_put held live))
  distinct-placed_after = placed-distinct (all_put held live) apart-after keys_after

  -- ---- where the elements come from
  length-news : (es : List ElementValue) → length (map (as_stored news) es) ≡ length es
  length-news [] = refl
  length-news (e ∷ es) = ap (λ n. suc n) (length-news es)

  others-live : map without_index (placed live) ≡ map without_index (in_scene_order live)
  others-live = ap (map without_index) placed-live
      ∙ others-keyed (in_scene_order live) (repaired (map index_of (in_scene_order live))) count

  others-after : map without_index (placed (all_put held live)) ≡ map without_index (in_scene_order (all_put held live))
  others-after =
      let L = in_scene_order live in
      ap (map without_index) placed-after ∙ others-keyed (map (as_stored news) L) (repaired (map index_of L)) (count
      ∙ sym (length-news L)) ∙ ap (map without_index) (sym order-after)

  from-live : (e : ElementValue) → Contains (placed live) e → IsOneOf live e
  from-live e c =
      let f = one-of-same without_index (placed live) (in_scene_order live) others-live e c in (
        f.0,
        Contains-permutation (in_scene_order live) live f.0
            (IsPermutation-sym _ _ (IsPermutation-in_scene_order live)) f.1,
        f.2,
      )

  of-order : AreOf live news (in_scene_order (all_put held live))
  of-order e c =
      let L = in_scene_order live in
      let x = Contains-map (as_stored news) L e (subst (λ es. Contains es e) order-after c) in
      from x.0 (Contains-permutation L live x.0 (IsPermutation-sym _ _ (IsPermutation-in_scene_order live)) x.1)
      (element_of news x.0.id) refl (sym x.2)
    where
      from : (x : ElementValue) → Contains live x → (o : Option ElementValue) → element_of news x.id ≡ o
          → e ≡ as_stored news x → IsOneOf live e ⊎ IsOneOf news e
      from x there None at' same = inl (x, there, ap without_index (same ∙ ap (λ r. unwrap_or r x) at'))
      from x there (Some n) at' same =
          inr (n, (find-Some (has_id x.id) news n at').0, ap without_index (same ∙ ap (λ r. unwrap_or r x) at'))

  of-after : AreOf live news (placed (all_put held live))
  of-after e c =
      let f = one-of-same without_index (placed (all_put held live)) (in_scene_order (all_put held live)) others-after e
      c in
      by f.0 f.2 (of-order f.0 f.1)
    where
      by : (f : ElementValue) → without_index e ≡ without_index f → IsOneOf live f ⊎ IsOneOf news f → IsOneOf live e
          ⊎ IsOneOf news e
      by f same (inl g) = inl (g.0, g.1, same ∙ g.2)
      by f same (inr g) = inr (g.0, g.1, same ∙ g.2)

  -- ---- what is shown
  module _ (puts : List Put) (repairs : AreRepairs live drawn news puts)
      (placed_puts : AllByRecursion (IsInPlace drawn) puts) where
    started_near : (id : List ℕ) → is_among repairs.start id ≡ true → is_among repairs.near id ≡ true
    started_near = started-near live news repairs.start repairs.near repairs.started repairs.reached

    kinds-after : AreKindsKept live (all_put held live) repairs.start
    kinds-after = kinds-replaced live (all_put held live) repairs.start news each-after repairs.kinds_started

    same-placed : (id : List ℕ) → is_among repairs.near id ≡ false
        → element_of (placed live) id ≡ element_of (placed (all_put held live)) id
    same-placed id out =
        ap (λ es. element_of es id) placed-live
        ∙ same-element news repairs.start repairs.started (in_scene_order live)
        (repaired (map index_of (in_scene_order live))) id
        (false_from_ne_true (is_among repairs.start id)
        (λ is. both_ways (is_among repairs.near id) out (started_near id is)))
        ∙ sym (ap (λ es. element_of es id) placed-after)

    far-framed : (id : List ℕ) → is_among repairs.near id ≡ false
        → is_framed (placed live) id ≡ is_framed (placed (all_put held live)) id
    far-framed id out =
        framed-alike live (all_put held live) (placed live) (placed (all_put held live)) repairs.start
        kinds-after view.ordered rising-after
        others-live others-after from-live id
        (false_from_ne_true (is_among repairs.start id)
        (λ is. both_ways (is_among repairs.near id) out (started_near id is)))
        (ap (option_map without_index) (same-placed id out))

    kept : map without_index (filter (λ (e : ElementValue). not (is_among repairs.start e.id)) (placed live))
        ≡ map without_index (filter (λ (e : ElementValue). not (is_among repairs.start e.id))
        (placed (all_put held live)))
    kept =
        ap (λ es. map without_index (filter (λ (e : ElementValue). not (is_among repairs.start e.id)) es)) placed-live
        ∙ same-others news repairs.start repairs.started (in_scene_order live)
        (repaired (map index_of (in_scene_order live)))
        ∙ sym (ap (λ es. map without_index (filter (λ (e : ElementValue). not (is_among repairs.start e.id)) es))
        placed-after)

    alike : (id : List ℕ) → is_among repairs.near id ≡ false
        → settled_but_for_key (placed live) id ≡ settled_but_for_key (placed (all_put held live)) id
    alike id out =
        settled-looks (placed live) (placed (all_put held live)) id distinct-placed distinct-placed_after (record {
          linked = placed-far live news (all_put held live) (placed live) (placed (all_put held live)) repairs.start
              repairs.near repairs.started repairs.reached view.ordered rising-after kinds-after others-live
              others-after from-live of-after kept id out;
          framed = far-framed id out;
        })

    -- near them
    shown-is-settled : drawn ≡ settled (placed live)
    unfolding shown
    shown-is-settled = view.exact

    part-is : settled (in_scene_order (filter_map (element_after live news) repairs.wide))
        ≡ settled (filter (λ (e : ElementValue). is_among repairs.wide e.id) (in_scene_order (all_put held live)))
    part-is =
        (λ i. settled (in_scene_order (filter_map (λ id. sym (each-after id) i) repairs.wide)))
        ∙ ap settled (picked-in_order (all_put held live) repairs.wide rising-after repairs.surrounded.distinct)

    distinct-order : HaveDistinctIds (in_scene_order (all_put held live))
    distinct-order =
        HaveDistinctIds-permuted (all_put held live) _ (IsPermutation-in_scene_order (all_put held live)) apart-after

    near-wide : (id : List ℕ) → is_among repairs.near id ≡ true
        → HasAllSeenFramed (λ (e : ElementValue). is_among repairs.wide e.id) (in_scene_order (all_put held live)) id
    near-wide = surrounded-near live news repairs.start repairs.near repairs.started repairs.reached
        (in_scene_order (all_put held live)) repairs.wide of-order repairs.surrounded

    settled-near : (id : List ℕ) → is_among repairs.near id ≡ true
        → settled_of (filter (λ (e : ElementValue). is_among repairs.wide e.id) (in_scene_order (all_put held live))) id
        ≡ settled_of (in_scene_order (all_put held live)) id
    settled-near id is = settled-seen (in_scene_order (all_put held live))
        (λ (e : ElementValue). is_among repairs.wide e.id) id distinct-order (near-wide id is)

    keyless : (es : List ElementValue) (id : List ℕ) → option_map without_index (element_of es id)
        ≡ element_of (map without_index es) id
    keyless es id = sym (element-map without_index (λ e. refl) es id)

    settled-placed : (id : List ℕ) → settled_but_for_key (in_scene_order (all_put held live)) id
        ≡ settled_but_for_key (placed (all_put held live)) id
    settled-placed id =
        let A = in_scene_order (all_put held live) in
        let P = placed (all_put held live) in
        keyless (settled A) id ∙ ap (λ es. element_of es id) (sym (settled-keys A) ∙ ap settled (sym others-after)
        ∙ settled-keys P) ∙ sym (keyless (settled P) id)

    put-others : (id : List ℕ) → option_map without_index (element_of (puts_of puts) id)
        ≡ option_map without_index (cond (is_among repairs.near id)
        (element_of (settled (in_scene_order (filter_map (element_after live news) repairs.wide))) id) None)
    put-others id =
        keyless (puts_of puts) id ∙ ap (λ es. element_of es id) repairs.drawn
        ∙ sym (keyless (filter (λ (e : ElementValue). is_among repairs.near e.id)
        (settled (in_scene_order (filter_map (element_after live news) repairs.wide)))) id)
        ∙ ap (option_map without_index) (element-filter (is_among repairs.near)
        (settled (in_scene_order (filter_map (element_after live news) repairs.wide))) id)

    put-near : (id : List ℕ) → is_among repairs.near id ≡ true → option_map without_index (element_of (puts_of puts) id)
        ≡ settled_but_for_key (placed (all_put held live)) id
    put-near id is =
        put-others id
        ∙ ap (λ b. option_map without_index
        (cond b (element_of (settled (in_scene_order (filter_map (element_after live news) repairs.wide))) id)
        None)) is
        ∙ ap (λ es. option_map without_index (element_of es id)) part-is
        ∙ ap (option_map without_index) (settled-near id is) ∙ settled-placed id

    put-far : (id : List ℕ) → is_among repairs.near id ≡ false → element_of (puts_of puts) id ≡ None
    put-far id out = by (element_of (puts_of puts) id) (put-others id
        ∙ ap (λ b. option_map without_index
        (cond b (element_of (settled (in_scene_order (filter_map (element_after live news) repairs.wide))) id) None))
        out) where
          by : (o : Option ElementValue) → option_map without_index o ≡ None → o ≡ None
          by None is = refl
          by (Some e) is = cc

    -- no two of what is put have one id
    distinct-part : HaveDistinctIds (settled (in_scene_order (filter_map (element_after live news) repairs.wide)))
    distinct-part =
        rw part-is (distinct-settled (filter (λ (e : ElementValue). is_among repairs.wide e.id)
        (in_scene_order (all_put held live))) (distinct-among (λ (e : ElementValue). is_among repairs.wide e.id)
        (in_scene_order (all_put held live)) distinct-order))

    distinct-puts : HaveDistinctIds (puts_of puts)
    distinct-puts =
        let es = filter (λ (e : ElementValue). is_among repairs.near e.id)
        (settled (in_scene_order (filter_map (element_after live news) repairs.wide))) in
        let ids : ids_of (puts_of puts) ≡ ids_of es =
        sym (map-map (λ (e : ElementValue). e.id) without_index (puts_of puts))
        ∙ ap (map (λ (e : ElementValue). e.id)) repairs.drawn
        ∙ map-map (λ (e : ElementValue). e.id) without_index es in
        subst (IsDistinct bytes_eq) (sym ids) (distinct-among (λ (e : ElementValue). is_among repairs.near e.id) _
        distinct-part)

    apart-drawn : HaveDistinctIds drawn
    apart-drawn = subst HaveDistinctIds (sym view.exact) (shown-distinct live apart view.keys)

    each-put : (id : List ℕ) → element_of (all_put puts drawn) id
        ≡ option_or (element_of (puts_of puts) id) (element_of drawn id)
    each-put id = element-all_put puts drawn id apart-drawn placed_puts distinct-puts

    ids-drawn : ids_of (all_put puts drawn) ≡ ids_of drawn
    ids-drawn = ids-all_put puts drawn placed_puts

    ids-placed : ids_of (placed live) ≡ ids_of (placed (all_put held live))
    ids-placed =
        sym (map-map (λ (e : ElementValue). e.id) without_index (placed live))
        ∙ ap (map (λ (e : ElementValue). e.id)) others-live
        ∙ map-map (λ (e : ElementValue). e.id) without_index (in_scene_order live)
        ∙ sym (ids-new news (in_scene_order live)) ∙ ap ids_of (sym order-after)
        ∙ sym (map-map (λ (e : ElementValue). e.id) without_index (in_scene_order (all_put held live)))
        ∙ ap (map (λ (e : ElementValue). e.id)) (sym others-after)
        ∙ map-map (λ (e : ElementValue). e.id) without_index (placed (all_put held live))

    indices-placed : map index_of (placed live) ≡ map index_of (placed (all_put held live))
    indices-placed =
        ap (map index_of) placed-live ∙ keyed-alike (in_scene_order live)
        (repaired (map index_of (in_scene_order live))) ∙ ap (map index_of) (sym placed-after)
      where
        keyed-alike : (es : List ElementValue) (ks : List (List ℕ))
            → map index_of (keyed es ks) ≡ map index_of (keyed (map (as_stored news) es) ks)
        keyed-alike [] ks = refl
        keyed-alike (e ∷ es) [] = refl
        keyed-alike (e ∷ es) (k ∷ ks) = ap (λ is. Some k ∷ is) (keyed-alike es ks)

    index-drawn : (id : List ℕ) → option_map index_of (element_of (all_put puts drawn) id)
        ≡ option_map index_of (element_of (settled (placed (all_put held live))) id)
    index-drawn id =
        index-by_ids (all_put puts drawn) drawn id ids-drawn (indices-all_put puts drawn placed_puts)
        ∙ ap (λ es. option_map index_of (element_of es id)) shown-is-settled ∙ index-settled (placed live) id
        ∙ index-by_ids (placed live) (placed (all_put held live)) id ids-placed indices-placed
        ∙ sym (index-settled (placed (all_put held live)) id)

    shown-near : (id : List ℕ) → is_among repairs.near id ≡ true
        → element_of (all_put puts drawn) id ≡ element_of (settled (placed (all_put held live))) id
    shown-near id is =
        each-put id
        ∙ joined (element_of (puts_of puts) id) (element_of drawn id)
        (element_of (settled (placed (all_put held live))) id) (put-near id is)
        (ap (option_map index_of) (sym (each-put id)) ∙ index-drawn id)

    shown-far : (id : List ℕ) → is_among repairs.near id ≡ false
        → element_of (all_put puts drawn) id ≡ element_of (settled (placed live)) id
    shown-far id out = each-put id ∙ ap (λ o. option_or o (element_of drawn id)) (put-far id out)
        ∙ ap (λ es. element_of es id) shown-is-settled

    ids-settled : (es : List ElementValue) → ids_of (settled es) ≡ ids_of es
    ids-settled es = sym (map-map (λ (e : ElementValue). e.id) unsettled (settled es))
        ∙ ap (map (λ (e : ElementValue). e.id)) (unsettled-settled es)
        ∙ map-map (λ (e : ElementValue). e.id) unsettled es

    drawn-after : all_put puts drawn ≡ settled (placed (all_put held live))
    drawn-after =
        all-shown (is_among repairs.near) (placed live) (placed (all_put held live)) (all_put puts drawn)
        (subst (IsDistinct bytes_eq) (sym ids-drawn) apart-drawn)
        (distinct-settled (placed (all_put held live)) distinct-placed_after)
        (ids-drawn ∙ ap ids_of shown-is-settled ∙ ids-settled (placed live) ∙ ids-placed
        ∙ sym (ids-settled (placed (all_put held live))))
        shown-near shown-far alike same-placed

    live-after : list_all is_live (all_put held live) ≡ true
    live-after = ap (list_all is_live) after-is ∙ by live view.all_live where
      one : (o : Option ElementValue) (e : ElementValue) → element_of news e.id ≡ o → is_live e ≡ true
          → is_live (unwrap_or o e) ≡ true
      one None e is h = h
      one (Some n) e is h = All-contains (λ x. is_live x ≡ true) news n (AllPass-from_list_all is_live news live_news)
          (find-Some (has_id e.id) news n is).0

      by : (es : List ElementValue) → list_all is_live es ≡ true → list_all is_live (map (as_stored news) es) ≡ true
      by [] h = refl
      by (e ∷ es) h =
          let p = and_parts (is_live e) (list_all is_live es) h in
          and_from (is_live (as_stored news e)) (list_all is_live (map (as_stored news) es))
          (one (element_of news e.id) e refl p.0) (by es p.1)

    pub view-after : IsView (all_put held live) (all_put puts drawn)
    unfolding shown
    view-after = record { exact = drawn-after; ordered = rising-after; all_live = live-after; keys = keys_after }
