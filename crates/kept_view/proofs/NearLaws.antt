-- What is shown after elements came, went or changed: near them it is settled anew, and far from them it stays.
use Rattle.std.proofs.Common.{◌≡◌, ◌⊎◌, ℕ, Bool, true, false, not, cond, List, map, filter, filter_map, Option, Some, None, Contains, bytes_eq, refl, sym, ap, ◌∙◌, subst, inl, inr}
use Rattle.std.specs.List.{IsDistinct, list_all}
use Rattle.std.specs.Option.{option_map}
use Rattle.std.proofs.lemmas.Bool.{cases_Bool, both_ways, false_from_ne_true}
use Rattle.std.proofs.lemmas.List.Kept.{AllPairs-filter}
use Rattle.std.proofs.lemmas.List.Sorted.{IsPermutation-sym, Contains-permutation}
use Rattle.frac_keys.specs.Rising.{are_rising}
use Rattle.index_repair.specs.Repair.{repaired}
use Rattle.elem.specs.ElementValue.{ElementValue}
use Rattle.elem.specs.Order.{has_id, HaveDistinctIds}
use Rattle.elem_store.specs.Updates.{element_of, ids_of, is_among}
use Rattle.elem_store.proofs.CallerLemmas.{find-Some, filter-Contains, Contains-filter, member}
use Rattle.links.proofs.CallerLemmas.{map-map}
use Rattle.view.specs.Settled.{settled, unsettled}
use Rattle.index_repair.specs.Keyed.{index_of, keyed, HaveKeysOrNone}
use Rattle.view.specs.Shown.{is_live, comes_before, in_scene_order, without_index, placed, shown, IsView}
use Rattle.view.specs.Steps.{is_framed, settled_but_for_key, HasAllSeenFramed}
use Rattle.view.proofs.CallerLemmas.{AllPairs-in_order, HaveDistinctIds-permuted, scene_order, IsPermutation-in_scene_order, distinct-settled, unsettled-settled, HaveDistinctIds-rising, placed-distinct, settled-keys, settled-looks, settled-seen, others-keyed, indices-keyed, ids_of-keyed}
use Rattle.kept_view.specs.inner.Reached.{AreStartedBy, AreSurrounded, HaveReached}
use Rattle.kept_view.proofs.ByIds.{same-by_ids}
use Rattle.kept_view.proofs.Framed.{AreKindsKept, framed-alike}
use Rattle.kept_view.proofs.Picked.{picked-in_order, same-in_order}
use Rattle.kept_view.proofs.PlacedLaws.{keys-count}
use Rattle.kept_view.proofs.ReachedLaws.{IsOneOf, AreOf, keyless-filter, placed-far, started-near, surrounded-near}
use Rattle.kept_view.proofs.ShownAfter.{element-filter, index-by_ids, one-of-same}
use Rattle.kept_view.proofs.Untouched.{element-map, same_option, index-settled}

-- elements with keys
pub keyless : (es : List ElementValue) (id : List ℕ) → option_map without_index (element_of es id)
    ≡ element_of (map without_index es) id
keyless es id = sym (element-map without_index (λ e. refl) es id)

pub ids-settled : (es : List ElementValue) → ids_of (settled es) ≡ ids_of es
ids-settled es = sym (map-map (λ (e : ElementValue). e.id) unsettled (settled es))
    ∙ ap (map (λ (e : ElementValue). e.id)) (unsettled-settled es) ∙ map-map (λ (e : ElementValue). e.id) unsettled es

-- ---- elements that are placed
module _ (live : List ElementValue) (keys : HaveKeysOrNone live) where
  placed-is : placed live ≡ keyed (in_scene_order live) (repaired (map index_of (in_scene_order live)))
  unfolding placed
  placed-is = refl

  others-placed : map without_index (placed live) ≡ map without_index (in_scene_order live)
  others-placed = ap (map without_index) placed-is ∙ others-keyed (in_scene_order live) _ (keys-count live keys)

  pub ids-placed : ids_of (placed live) ≡ ids_of (in_scene_order live)
  ids-placed = ap ids_of placed-is ∙ ids_of-keyed (in_scene_order live) _ (keys-count live keys)

  pub indices-placed : map index_of (placed live) ≡ map Some (repaired (map index_of (in_scene_order live)))
  indices-placed = ap (map index_of) placed-is ∙ indices-keyed (in_scene_order live) _ (keys-count live keys)

  from-placed : (e : ElementValue) → Contains (placed live) e → (f : ElementValue) × Contains live f
      × (without_index e ≡ without_index f)
  from-placed e c =
      let f = one-of-same without_index (placed live) (in_scene_order live) others-placed e c in (
        f.0,
        Contains-permutation (in_scene_order live) live f.0
            (IsPermutation-sym _ _ (IsPermutation-in_scene_order live)) f.1,
        f.2,
      )

  -- what settling makes of the elements in scene order, but for their keys
  settled-placed : (id : List ℕ) → settled_but_for_key (in_scene_order live) id ≡ settled_but_for_key (placed live) id
  settled-placed id =
      keyless (settled (in_scene_order live)) id
      ∙ ap (λ es. element_of es id) (sym (settled-keys (in_scene_order live)) ∙ ap settled (sym others-placed)
      ∙ settled-keys (placed live))
      ∙ sym (keyless (settled (placed live)) id)

-- ---- the elements of other ids stand in one order
module _ (live after : List ElementValue) (rising : are_rising (ids_of live) ≡ true)
    (rising_after : are_rising (ids_of after) ≡ true)
    (q : List ℕ → Bool) (others : (id : List ℕ) → q id ≡ true → element_of after id ≡ element_of live id) where
  abbrev p : ElementValue → Bool
  p e = q e.id

  goes : (es fs : List ElementValue) → are_rising (ids_of es) ≡ true
      → ((id : List ℕ) → q id ≡ true → element_of fs id ≡ element_of es id)
      → (z : ElementValue) → Contains (filter p (in_scene_order es)) z → Contains (filter p (in_scene_order fs)) z
  goes es fs rise same z c =
      let found = filter-Contains p (in_scene_order es) z c in
      let there = Contains-permutation (in_scene_order es) es z
      (IsPermutation-sym _ _ (IsPermutation-in_scene_order es)) found.0 in
      let also = (find-Some (has_id z.id) fs z (same z.id found.1 ∙ member None None es z rise there)).0 in
      Contains-filter p (in_scene_order fs) z
      (Contains-permutation fs (in_scene_order fs) z (IsPermutation-in_scene_order fs) also) found.1

  pub kept-order : filter p (in_scene_order live) ≡ filter p (in_scene_order after)
  kept-order =
      same-in_order (filter p (in_scene_order live)) (filter p (in_scene_order after))
      (AllPairs-filter (λ e f. comes_before e f ≡ true) p (in_scene_order live)
      (AllPairs-in_order scene_order live (HaveDistinctIds-rising live rising)))
      (AllPairs-filter (λ e f. comes_before e f ≡ true) p (in_scene_order after)
      (AllPairs-in_order scene_order after (HaveDistinctIds-rising after rising_after)))
      (goes live after rising others)
      (goes after live rising_after (λ id is. sym (others id is)))

-- Elements came, went or changed, and what is shown of those near them was settled anew; what is shown of the others is
-- as before, and the keys are those of the elements in scene order.
pub record IsShownNear (live drawn news after new : List ElementValue) : Type 0 where
  pub ordered : are_rising (ids_of after) ≡ true
  pub all_live : list_all is_live after ≡ true
  pub keys : HaveKeysOrNone after
  pub start : List (List ℕ)
  pub near : List (List ℕ)
  pub wide : List (List ℕ)
  pub started : AreStartedBy start news
  pub reached : HaveReached live start near
  pub surrounded : AreSurrounded live news near wide
  pub kinds_kept : AreKindsKept live after start
  pub others : (id : List ℕ) → is_among start id ≡ false → element_of after id ≡ element_of live id
  pub from : (e : ElementValue) → Contains after e → Contains live e ⊎ Contains news e
  pub ids : ids_of new ≡ ids_of (in_scene_order after)
  pub indices : map index_of new ≡ map Some (repaired (map index_of (in_scene_order after)))
  pub drawn_near : (id : List ℕ) (x : ElementValue) → is_among near id ≡ true
      → settled_but_for_key (in_scene_order (filter_map (element_of after) wide)) id ≡ Some x
      → option_map without_index (element_of new id)
      ≡ settled_but_for_key (in_scene_order (filter_map (element_of after) wide)) id
  pub drawn_far : (id : List ℕ) → is_among near id ≡ false
      → option_map without_index (element_of new id) ≡ option_map without_index (element_of drawn id)

module _ (live drawn news after new : List ElementValue) (view : IsView live drawn)
    (is : IsShownNear live drawn news after new) where
  apart : HaveDistinctIds live
  apart = HaveDistinctIds-rising live view.ordered

  apart_after : HaveDistinctIds after
  apart_after = HaveDistinctIds-rising after is.ordered

  distinct-placed : HaveDistinctIds (placed live)
  distinct-placed = placed-distinct live apart view.keys

  distinct-placed_after : HaveDistinctIds (placed after)
  distinct-placed_after = placed-distinct after apart_after is.keys

  distinct-order : HaveDistinctIds (in_scene_order after)
  distinct-order = HaveDistinctIds-permuted after _ (IsPermutation-in_scene_order after) apart_after

  -- ---- where the elements come from
  one-from : (e f : ElementValue) → without_index e ≡ without_index f → Contains live f ⊎ Contains news f
      → IsOneOf live e ⊎ IsOneOf news e
  one-from e f same (inl c) = inl (f, c, same)
  one-from e f same (inr c) = inr (f, c, same)

  of-after : AreOf live news (placed after)
  of-after e c = let f = from-placed after is.keys e c in one-from e f.0 f.2 (is.from f.0 f.1)

  of-order : AreOf live news (in_scene_order after)
  of-order e c =
      one-from e e refl (is.from e (Contains-permutation (in_scene_order after) after e
      (IsPermutation-sym _ _ (IsPermutation-in_scene_order after)) c))

  -- ---- far from what changed
  abbrev off : ElementValue → Bool
  off e = not (is_among is.start e.id)

  from_not : (b : Bool) → not b ≡ true → b ≡ false
  from_not true h = cc
  from_not false h = refl

  kept : map without_index (filter off (placed live)) ≡ map without_index (filter off (placed after))
  kept =
      let q : List ℕ → Bool = λ id. not (is_among is.start id) in
      keyless-filter q (placed live) ∙ ap (filter off) (others-placed live view.keys)
      ∙ sym (keyless-filter q (in_scene_order live))
      ∙ ap (map without_index) (kept-order live after view.ordered is.ordered q
      (λ id h. is.others id (from_not (is_among is.start id) h)))
      ∙ keyless-filter q (in_scene_order after) ∙ ap (filter off) (sym (others-placed after is.keys))
      ∙ sym (keyless-filter q (placed after))

  started_near : (id : List ℕ) → is_among is.start id ≡ true → is_among is.near id ≡ true
  started_near = started-near live news is.start is.near is.started is.reached

  far-stays : (id : List ℕ) → is_among is.start id ≡ false → (es : List ElementValue)
      → option_map without_index (element_of es id) ≡ element_of (map without_index (filter off es)) id
  far-stays id out es =
      ap (option_map without_index) (sym (element-filter (λ id. not (is_among is.start id)) es id
      ∙ ap (λ b. cond (not b) (element_of es id) None) out)) ∙ keyless (filter off es) id

  far-framed : (id : List ℕ) → is_among is.near id ≡ false → is_framed (placed live) id ≡ is_framed (placed after) id
  far-framed id out =
      let off_start : is_among is.start id ≡ false =
      false_from_ne_true (is_among is.start id) (λ h. both_ways (is_among is.near id) out (started_near id h)) in
      framed-alike live after (placed live) (placed after) is.start is.kinds_kept view.ordered is.ordered
      (others-placed live view.keys)
      (others-placed after is.keys) (from-placed live view.keys) id off_start
      (far-stays id off_start (placed live) ∙ ap (λ es. element_of es id) kept
      ∙ sym (far-stays id off_start (placed after)))

  alike : (id : List ℕ) → is_among is.near id ≡ false → settled_but_for_key (placed live) id
      ≡ settled_but_for_key (placed after) id
  alike id out =
      settled-looks (placed live) (placed after) id distinct-placed distinct-placed_after (record {
        linked = placed-far live news after (placed live) (placed after) is.start is.near is.started is.reached
            view.ordered is.ordered is.kinds_kept (others-placed live view.keys) (others-placed after is.keys)
            (from-placed live view.keys) of-after kept id out;
        framed = far-framed id out;
      })

  drawn-is : drawn ≡ settled (placed live)
  unfolding shown
  drawn-is = view.exact

  -- ---- near it
  part-is : settled (in_scene_order (filter_map (element_of after) is.wide))
      ≡ settled (filter (λ (e : ElementValue). is_among is.wide e.id) (in_scene_order after))
  part-is = ap settled (picked-in_order after is.wide is.ordered is.surrounded.distinct)

  near-wide : (id : List ℕ) → is_among is.near id ≡ true
      → HasAllSeenFramed (λ (e : ElementValue). is_among is.wide e.id) (in_scene_order after) id
  near-wide = surrounded-near live news is.start is.near is.started is.reached (in_scene_order after) is.wide of-order
      is.surrounded

  settled-near : (id : List ℕ) → is_among is.near id ≡ true
      → settled_but_for_key (in_scene_order (filter_map (element_of after) is.wide)) id
      ≡ settled_but_for_key (placed after) id
  settled-near id h =
      ap (λ es. option_map without_index (element_of es id)) part-is
      ∙ ap (option_map without_index) (settled-seen (in_scene_order after)
      (λ (e : ElementValue). is_among is.wide e.id) id distinct-order (near-wide id h))
      ∙ settled-placed after is.keys id

  -- ---- all of them
  index-new : (id : List ℕ) → option_map index_of (element_of new id)
      ≡ option_map index_of (element_of (settled (placed after)) id)
  index-new id =
      index-by_ids new (placed after) id (is.ids ∙ sym (ids-placed after is.keys)) (is.indices
      ∙ sym (indices-placed after is.keys))
      ∙ sym (index-settled (placed after) id)

  -- what isn't there isn't shown
  none-new : (o t : Option ElementValue) → option_map index_of o ≡ option_map index_of t
      → option_map without_index t ≡ None → option_map without_index o ≡ option_map without_index t
  none-new None None index none = refl
  none-new None (Some y) index none = cc
  none-new (Some x) None index none = cc
  none-new (Some x) (Some y) index none = cc

  others-near : (id : List ℕ) → is_among is.near id ≡ true → (o : Option ElementValue)
      → settled_but_for_key (in_scene_order (filter_map (element_of after) is.wide)) id ≡ o
      → option_map without_index (element_of new id) ≡ settled_but_for_key (placed after) id
  others-near id h None part = none-new (element_of new id) (element_of (settled (placed after)) id) (index-new id)
      (sym (settled-near id h) ∙ part)
  others-near id h (Some x) part = is.drawn_near id x h part ∙ settled-near id h

  others-new : (id : List ℕ) → option_map without_index (element_of new id) ≡ settled_but_for_key (placed after) id
  others-new id = elim (cases_Bool (is_among is.near id)) [
    | inl h ↦ others-near id h (settled_but_for_key (in_scene_order (filter_map (element_of after) is.wide)) id) refl
    | inr out ↦ is.drawn_far id out ∙ ap (λ es. option_map without_index (element_of es id)) drawn-is ∙ alike id out
  ]

  distinct-new : HaveDistinctIds new
  distinct-new = subst (IsDistinct bytes_eq) (sym is.ids) distinct-order

  new-is : new ≡ settled (placed after)
  new-is =
      same-by_ids new (settled (placed after)) distinct-new (distinct-settled (placed after) distinct-placed_after)
      (is.ids ∙ sym (ids-settled (placed after) ∙ ids-placed after is.keys))
      (λ id. same_option (element_of new id) (element_of (settled (placed after)) id) (others-new id) (index-new id))

  pub IsView-near : IsView after new
  unfolding shown
  IsView-near = record { exact = new-is; ordered = is.ordered; all_live = is.all_live; keys = is.keys }
