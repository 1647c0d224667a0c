-- A view where an element comes, and where one goes.
use Rattle.std.proofs.Common.{◌≡◌, ◌⊎◌, ℕ, zero, suc, ◌+◌, ◌-◌, ◌<◌, ◌≤◌, Bool, true, false, not, cond, ◌&&◌, List, [], ◌∷◌, length, insert, remove, map, filter, filter_map, get_or, slice_get, Option, Some, None, IsSomeAnd, All, Contains, bytes_eq, refl, sym, ap, ap₂, ◌∙◌, subst, inl, inr, arith}
use Rattle.std.specs.List.{AllByRecursion, IsDistinct, list_all}
use Rattle.std.specs.Option.{option_map, option_or, unwrap_or}
use Rattle.std.proofs.lemmas.Bool.{cases_Bool, and_from, and_parts, both_ways, false_from_ne_true}
use Rattle.std.proofs.lemmas.List.{length-map, get_or_default}
use Rattle.std.proofs.Math.ListN.{get_or-map}
use Rattle.std.proofs.lemmas.List.Elements.{All-contains, All-from_recursion, All-weaker, recursion_from_All}
use Rattle.std.proofs.lemmas.List.Sorted.{IsPermutation-sym, IsPermutation-map, All-permutation, Contains-permutation}
use Rattle.std.proofs.lemmas.List.Sums.{AllPass-from_list_all, list_all-from_AllPass}
use Rattle.std.proofs.lemmas.Option.{same_Some, slice_get_within, get_or_from_slice_get}
use Rattle.std.proofs.lemmas.Slice.Eq.{bytes_eq-Decides}
use Rattle.frac_keys.specs.Rising.{are_rising, is_key_or_none}
use Rattle.index_repair.specs.Repair.{repaired, NeverFall}
use Rattle.elem.specs.ElementValue.{ElementValue}
use Rattle.elem_store.specs.Places.{IsAt, IsGapFor}
use Rattle.elem.specs.Order.{has_id, HaveDistinctIds}
use Rattle.elem_store.specs.Updates.{element_of, ids_of, is_among}
use Rattle.elem_store.proofs.CallerLemmas.{HasTaken-insert, element-gap, element-at, same_id, of_same, find-Some, filter-Contains, Contains-head, member}
use Rattle.links.proofs.CallerLemmas.{distinct-among, map-map}
use Rattle.view.specs.Settled.{settled, unsettled}
use Rattle.index_repair.specs.Keyed.{index_of}
use Rattle.view.specs.Shown.{is_live, as_stored, in_scene_order, without_index, placed, shown, AreInSceneOrder, IsView}
use Rattle.view.specs.Steps.{settled_but_for_key}
use Rattle.view.proofs.CallerLemmas.{AllPairs-in_order, HaveDistinctIds-permuted, scene_order, IsPermutation-in_scene_order, distinct-settled, unsettled-settled, HaveDistinctIds-rising, shown-is}
use Rattle.kept_view.specs.declared.places.Put.{Put}
use Rattle.kept_view.specs.inner.Coming.{all_stored, part_with, part_of_ids, rekeyed, AreAround, ArePutBeside, HasGone, IsComing, IsGoing, IsPlaceFor}
use Rattle.kept_view.specs.inner.Putting.{puts_of, IsInPlace, IsWithin, all_put}
use Rattle.kept_view.specs.inner.Reached.{IsStartedBy, HaveReached, StaysKind}
use Rattle.kept_view.specs.inner.Replacing.{element_after, HaveReplaced}
use Rattle.kept_view.specs.inner.Runs.{part_of, stored_keys, AreKeysWith, AreKeysWithout}
use Rattle.kept_view.proofs.Framed.{kinds-gone, kinds-replaced}
use Rattle.kept_view.proofs.NearLaws.{IsView-near, ids-settled, indices-placed, keyless, kept-order}
use Rattle.kept_view.proofs.OrderedLaws.{order-with, stored-order, map-insert, map-remove, insert-moved, others_than, others-apart, others-removed, others-rise}
use Rattle.kept_view.proofs.Picked.{distinct-after, picked-in_order}
use Rattle.kept_view.proofs.PlacedLaws.{shown-distinct}
use Rattle.kept_view.proofs.PuttingLaws.{IsWithin-place, ids-all_put, indices-all_put, element-all_put}
use Rattle.kept_view.proofs.RekeyedLaws.{never-falls, others-rekeyed, ids-rekeyed, indices-with, indices-without, fits-with, fits-without, length-insert, length-remove}
use Rattle.kept_view.proofs.ShownAfter.{element-filter, one-of-same}

-- ---- what stands around an element begins with it
stepped-from : (live : List ElementValue) (from to : List (List ℕ)) → HaveReached live from to → (id : List ℕ)
    → is_among from id ≡ true → is_among to id ≡ true
stepped-from live from to reached id h = reached.to_texts.kept id (reached.texts.kept id (reached.linked.kept id h))

own-near : (live : List ElementValue) (e : ElementValue) (near wide : List (List ℕ)) → AreAround live e near wide
    → is_among near e.id ≡ true
own-near live e near wide around =
    let begins : IsStartedBy around.start e =
    All-contains (IsStartedBy around.start) (e ∷ []) e around.started (Contains-head e []) in
    stepped-from live around.start near around.reached e.id begins.0

-- ---- what is put beside it
module _ (drawn part : List ElementValue) (near : List (List ℕ)) (id : List ℕ) (puts : List Put)
    (beside : ArePutBeside drawn part near id puts) (apart_drawn : HaveDistinctIds drawn)
    (apart_part : HaveDistinctIds part) where
  abbrev beside_it : ElementValue → Bool
  beside_it e = is_among beside.others e.id

  placed_puts : AllByRecursion (IsInPlace drawn) puts
  placed_puts = recursion_from_All _ _ beside.placed

  put-others : (other : List ℕ) → option_map without_index (element_of (puts_of puts) other)
      ≡ option_map without_index (cond (is_among beside.others other) (element_of part other) None)
  put-others other =
      keyless (puts_of puts) other ∙ ap (λ es. element_of es other) beside.drawn_others
      ∙ sym (keyless (filter beside_it part) other)
      ∙ ap (option_map without_index) (element-filter (is_among beside.others) part other)

  none-from : (o : Option ElementValue) → option_map without_index o ≡ None → o ≡ None
  none-from None is = refl
  none-from (Some e) is = cc

  distinct-puts : HaveDistinctIds (puts_of puts)
  distinct-puts =
      let es = filter beside_it part in
      let ids : ids_of (puts_of puts) ≡ ids_of es =
      sym (map-map (λ (e : ElementValue). e.id) without_index (puts_of puts))
      ∙ ap (map (λ (e : ElementValue). e.id)) beside.drawn_others
      ∙ map-map (λ (e : ElementValue). e.id) without_index es in
      subst (IsDistinct bytes_eq) (sym ids) (distinct-among beside_it part apart_part)

  each-put : (other : List ℕ) → element_of (all_put puts drawn) other
      ≡ option_or (element_of (puts_of puts) other) (element_of drawn other)
  each-put other = element-all_put puts drawn other apart_drawn placed_puts distinct-puts

  -- near it there is what the part has, and far from it what was shown
  pub put-near : (other : List ℕ) (x : ElementValue) → is_among near other ≡ true → bytes_eq other id ≡ false
      → option_map without_index (element_of part other) ≡ Some x
      → option_map without_index (element_of (all_put puts drawn) other)
      ≡ option_map without_index (element_of part other)
  put-near other x h off there =
      let among : is_among beside.others other ≡ true = beside.are.each other ∙ ap₂ (λ a b. not a && b) off h in
      let same : option_map without_index (element_of (puts_of puts) other)
      ≡ option_map without_index (element_of part other) =
      put-others other ∙ ap (λ b. option_map without_index (cond b (element_of part other) None)) among in
      ap (option_map without_index) (each-put other)
      ∙ by (element_of (puts_of puts) other) (element_of drawn other) (same ∙ there) ∙ same
    where
      by : (o s : Option ElementValue) → option_map without_index o ≡ Some x
          → option_map without_index (option_or o s) ≡ option_map without_index o
      by None s h = cc
      by (Some e) s h = refl

  pub put-far : (other : List ℕ) → is_among near other ≡ false
      → element_of (all_put puts drawn) other ≡ element_of drawn other
  put-far other out =
      let among : is_among beside.others other ≡ false =
      beside.are.each other ∙ ap (λ b. not (bytes_eq other id) && b) out ∙ never (not (bytes_eq other id)) in
      let none = none-from (element_of (puts_of puts) other) (put-others other
      ∙ ap (λ b. option_map without_index (cond b (element_of part other) None)) among) in
      each-put other ∙ ap (λ o. option_or o (element_of drawn other)) none
    where
      never : (a : Bool) → (a && false) ≡ false
      never true = refl
      never false = refl

  pub put-ids : ids_of (all_put puts drawn) ≡ ids_of drawn
  put-ids = ids-all_put puts drawn placed_puts

  pub put-indices : map index_of (all_put puts drawn) ≡ map index_of drawn
  put-indices = indices-all_put puts drawn placed_puts

-- ---- one more element among others
pub element-inserted : (es : List ElementValue) (i : ℕ) (e : ElementValue) (id : List ℕ) → element_of es e.id ≡ None
    → element_of (insert es i e) id ≡ cond (has_id id e) (Some e) (element_of es id)
element-inserted es zero e id none = refl
element-inserted [] (suc i) e id none = refl
element-inserted (x ∷ es) (suc i) e id none = elim (cases_Bool (has_id e.id x)) [
  | inl same ↦ let never = rw same at none in cc
  | inr off ↦
      let later : element_of es e.id ≡ None = rw off at none in
      elim (cases_Bool (has_id id x)) [
        | inl own ↦ elim (cases_Bool (has_id id e)) [
          | inl both ↦ absurd (both_ways (has_id e.id x) off (ap (λ n. bytes_eq n x.id) (sym (same_id id e both))
              ∙ own))
          | inr other ↦ rw (own, other) refl
        ]
        | inr other ↦ rw other (element-inserted es i e id later)
      ]
]

list_all-insert : {X : Type 0} (p : X → Bool) (xs : List X) (i : ℕ) (x : X) → p x ≡ true → list_all p xs ≡ true
    → list_all p (insert xs i x) ≡ true
list_all-insert p xs zero x h all = and_from (p x) (list_all p xs) h all
list_all-insert p [] (suc i) x h all = and_from (p x) true h refl
list_all-insert p (y ∷ xs) (suc i) x h all =
    let parts = and_parts (p y) (list_all p xs) all in
    and_from (p y) (list_all p (insert xs i x)) parts.0 (list_all-insert p xs i x h parts.1)

pub list_all-of-insert : {X : Type 0} (p : X → Bool) (xs : List X) (i : ℕ) (x : X)
    → list_all p (insert xs i x) ≡ true
    → p x ≡ true
list_all-of-insert p xs zero x all = (and_parts (p x) (list_all p xs) all).0
list_all-of-insert p [] (suc i) x all = (and_parts (p x) true all).0
list_all-of-insert p (y ∷ xs) (suc i) x all =
    list_all-of-insert p xs i x (and_parts (p y) (list_all p (insert xs i x)) all).1

list_all-remove : {X : Type 0} (p : X → Bool) (xs : List X) (i : ℕ) → list_all p xs ≡ true
    → list_all p (remove xs i) ≡ true
list_all-remove p [] zero all = refl
list_all-remove p [] (suc i) all = refl
list_all-remove p (y ∷ xs) zero all = (and_parts (p y) (list_all p xs) all).1
list_all-remove p (y ∷ xs) (suc i) all =
    let parts = and_parts (p y) (list_all p xs) all in
    and_from (p y) (list_all p (remove xs i)) parts.0 (list_all-remove p xs i parts.1)

filter-twice : (q p r : ElementValue → Bool) → ((e : ElementValue) → r e ≡ (q e && p e)) → (es : List ElementValue)
    → filter p (filter q es) ≡ filter r es
filter-twice q p r same [] = refl
filter-twice q p r same (e ∷ es) = elim (cases_Bool (q e)) [
  | inl is ↦
      let r_is : r e ≡ p e = same e ∙ ap (λ b. b && p e) is in
      rw (is, r_is) (elim (cases_Bool (p e)) [
        | inl also ↦ rw also (ap (λ xs. e ∷ xs) (filter-twice q p r same es))
        | inr off ↦ rw off (filter-twice q p r same es)
      ])
  | inr off ↦
      let r_is : r e ≡ false = same e ∙ ap (λ b. b && p e) off in
      rw (off, r_is) (filter-twice q p r same es)
]

bytes_eq-turned : (a b : List ℕ) → bytes_eq a b ≡ bytes_eq b a
bytes_eq-turned a b = elim (cases_Bool (bytes_eq a b)) [
  | inl is ↦ is ∙ sym ((bytes_eq-Decides b a).1 (sym ((bytes_eq-Decides a b).0 is)))
  | inr off ↦ off
      ∙ sym (false_from_ne_true (bytes_eq b a)
      (λ is. both_ways (bytes_eq a b) off ((bytes_eq-Decides a b).1 (sym ((bytes_eq-Decides b a).0 is)))))
]

-- an element of one list has the id of one of another with the same ids
one-of-ids : (es fs : List ElementValue) → ids_of es ≡ ids_of fs → (e : ElementValue) → Contains es e
    → (f : ElementValue) × Contains fs f × (e.id ≡ f.id)
one-of-ids es fs ids e c = one-of-same (λ (x : ElementValue). x.id) es fs ids e c

-- ---- a view, and what is shown of it
module _ (live drawn : List ElementValue) (view : IsView live drawn) where
  apart : HaveDistinctIds live
  apart = HaveDistinctIds-rising live view.ordered

  sorted : AreInSceneOrder (in_scene_order live)
  sorted = AllPairs-in_order scene_order live apart

  apart_drawn : HaveDistinctIds drawn
  apart_drawn = subst HaveDistinctIds (sym view.exact) (shown-distinct live apart view.keys)

  keys-are : stored_keys live drawn ≡ map index_of (in_scene_order live)
  keys-are = sym (map-map index_of (as_stored live) drawn) ∙ ap (map index_of) (stored-order live drawn view)

  ids-drawn : ids_of drawn ≡ ids_of (in_scene_order live)
  ids-drawn = ap ids_of view.exact ∙ (shown-is live view.keys).along

  never : NeverFall (map index_of (in_scene_order live))
  never = never-falls (in_scene_order live) sorted

  keys-all : list_all is_key_or_none (map index_of (in_scene_order live)) ≡ true
  keys-all =
      let moved = IsPermutation-map index_of live (in_scene_order live) (IsPermutation-in_scene_order live) in
      list_all-from_AllPass is_key_or_none _ (All-permutation (λ x. is_key_or_none x ≡ true) (map index_of live)
      (map index_of (in_scene_order live)) moved (AllPass-from_list_all is_key_or_none (map index_of live)
      view.keys))

  indices-drawn : map index_of drawn ≡ map Some (repaired (map index_of (in_scene_order live)))
  unfolding shown
  indices-drawn =
      ap (map index_of) view.exact
      ∙ (sym (map-map index_of unsettled (settled (placed live)))
      ∙ ap (map index_of) (unsettled-settled (placed live))
      ∙ map-map index_of unsettled (placed live))
      ∙ indices-placed live view.keys

  count-drawn : length drawn ≡ length (map index_of (in_scene_order live))
  count-drawn =
      sym (length-map drawn (λ (e : ElementValue). e.id)) ∙ ap length ids-drawn
      ∙ length-map (in_scene_order live) (λ (e : ElementValue). e.id)
      ∙ sym (length-map (in_scene_order live) index_of)

  -- ---- where an element comes
  module _ (e own : ElementValue) (at' place start : ℕ) (puts : List Put) (keys : List (List ℕ)) (is : is_live e
      ≡ true)
      (gap : IsGapFor live e.id at')
      (placing : IsPlaceFor (all_stored live drawn) e place)
      (keys_with : AreKeysWith (stored_keys live drawn) e.index place start keys)
      (coming : IsComing live drawn e own puts) where
    with' : List ElementValue
    with' = insert live at' e

    none-live : element_of live e.id ≡ None
    none-live = element-gap live e.id at' gap

    pub each-with : (id : List ℕ) → element_of (insert live at' e) id
        ≡ cond (has_id id e) (Some e) (element_of live id)
    each-with id = element-inserted live at' e id none-live

    pub ordered-with : are_rising (ids_of (insert live at' e)) ≡ true
    ordered-with = (HasTaken-insert live e at' view.ordered gap).ordered

    each-after : (id : List ℕ) → element_of (insert live at' e) id ≡ element_after live (e ∷ []) id
    each-after id = each-with id ∙ by (has_id id e) where
      by : (b : Bool) → cond b (Some e) (element_of live id) ≡ option_or (cond b (Some e) None) (element_of live id)
      by true = refl
      by false = refl

    pub HaveReplaced-with : HaveReplaced live (e ∷ []) (insert live at' e)
    HaveReplaced-with = record { ordered = ordered-with; each = each-after }

    placed-there : IsPlaceFor (in_scene_order live) e place
    placed-there = subst (λ es. IsPlaceFor es e place) (stored-order live drawn view) placing

    apart-with : HaveDistinctIds (insert live at' e)
    apart-with = HaveDistinctIds-rising (insert live at' e) ordered-with

    order-is : in_scene_order (insert live at' e) ≡ insert (in_scene_order live) place e
    order-is =
        order-with live (insert live at' e) e place sorted
        (HaveDistinctIds-permuted (insert live at' e) (e ∷ live) (IsPermutation-sym _ _ (insert-moved live at' e))
        apart-with)
        (insert-moved live at' e) placed-there

    named : own.id ≡ e.id
    named = sym (same_id e.id own (find-Some (has_id e.id) (part_with live e coming.wide) own coming.found).1)

    apart-part : HaveDistinctIds (part_with live e coming.wide)
    apart-part =
        let found = filter_map (element_after live (e ∷ [])) coming.wide in
        distinct-settled (in_scene_order found)
        (HaveDistinctIds-permuted found _ (IsPermutation-in_scene_order found)
        (distinct-after live (e ∷ []) coming.wide coming.around.surrounded.distinct))

    part-is : settled (in_scene_order (filter_map (element_of (insert live at' e)) coming.wide))
        ≡ part_with live e coming.wide
    part-is = λ i. settled (in_scene_order (filter_map (λ id. each-after id i) coming.wide))

    abbrev after_puts : List ElementValue
    after_puts = all_put puts drawn

    ids-puts : ids_of after_puts ≡ ids_of drawn
    ids-puts =
        put-ids drawn (part_with live e coming.wide) coming.near e.id puts coming.beside apart_drawn apart-part

    none-drawn : element_of after_puts own.id ≡ None
    none-drawn = by (element_of after_puts own.id) refl where
      by : (o : Option ElementValue) → element_of after_puts own.id ≡ o → element_of after_puts own.id ≡ None
      by None h = h
      by (Some x) h =
          let found = find-Some (has_id own.id) after_puts x h in
          let id : own.id ≡ x.id = same_id own.id x found.1 in
          absurd (no-id x found.0 (sym id ∙ named))
        where
          no-id : (x : ElementValue) → Contains after_puts x → x.id ≡ e.id → ⊥
          no-id x c same =
              let y = one-of-ids after_puts (in_scene_order live) (ids-puts ∙ ids-drawn) x c in
              let there = Contains-permutation (in_scene_order live) live y.0
              (IsPermutation-sym _ _ (IsPermutation-in_scene_order live)) y.1 in
              let known = member None None live y.0 view.ordered there in
              let gone : element_of live y.0.id ≡ None = ap (element_of live) (sym y.2 ∙ same) ∙ none-live in
              let never : Some y.0 ≡ None = sym known ∙ gone in cc

    shown_with : List ElementValue
    shown_with = rekeyed start keys (insert (all_put puts drawn) place own)

    others-with : (id : List ℕ) → option_map without_index
        (element_of (rekeyed start keys (insert (all_put puts drawn) place own)) id)
        ≡ option_map without_index (cond (has_id id own) (Some own) (element_of (all_put puts drawn) id))
    others-with id =
        keyless (rekeyed start keys (insert after_puts place own)) id
        ∙ ap (λ es. element_of es id) (others-rekeyed start keys (insert after_puts place own))
        ∙ sym (keyless (insert after_puts place own) id)
        ∙ ap (option_map without_index) (element-inserted after_puts place own id none-drawn)

    near-with : (id : List ℕ) (x : ElementValue) → is_among coming.near id ≡ true
        → settled_but_for_key (in_scene_order (filter_map (element_of (insert live at' e)) coming.wide)) id ≡ Some x
        → option_map without_index (element_of (rekeyed start keys (insert (all_put puts drawn) place own)) id)
        ≡ settled_but_for_key (in_scene_order (filter_map (element_of (insert live at' e)) coming.wide)) id
    near-with id x h there =
        let part = ap (λ es. option_map without_index (element_of es id)) part-is in
        others-with id ∙ elim (cases_Bool (has_id id own)) [
          | inl is ↦
              let same : id ≡ e.id = same_id id own is ∙ named in
              ap (λ b. option_map without_index (cond b (Some own) (element_of after_puts id))) is
              ∙ sym (ap (λ n. option_map without_index (element_of (part_with live e coming.wide) n)) same
              ∙ ap (option_map without_index) coming.found)
          | inr off ↦
              ap (λ b. option_map without_index (cond b (Some own) (element_of after_puts id))) off
              ∙ put-near drawn (part_with live e coming.wide) coming.near e.id puts coming.beside apart_drawn
              apart-part
              id x h (ap (bytes_eq id) (sym named) ∙ off) (sym part ∙ there)
        ] ∙ sym part

    far-with : (id : List ℕ) → is_among coming.near id ≡ false
        → option_map without_index (element_of (rekeyed start keys (insert (all_put puts drawn) place own)) id)
        ≡ option_map without_index (element_of drawn id)
    far-with id out =
        let off : has_id id own ≡ false = false_from_ne_true (has_id id own)
        (λ is. both_ways (is_among coming.near id) out (ap (is_among coming.near) (same_id id own is ∙ named)
        ∙ own-near live e coming.near coming.wide coming.around)) in
        others-with id ∙ ap (λ b. option_map without_index (cond b (Some own) (element_of after_puts id))) off
        ∙ ap (option_map without_index) (put-far drawn (part_with live e coming.wide) coming.near e.id puts
        coming.beside apart_drawn apart-part id out)

    keys-of : AreKeysWith (map index_of (in_scene_order live)) e.index place start keys
    keys-of = subst (λ ks. AreKeysWith ks e.index place start keys) keys-are keys_with

    short : place ≤ length (map index_of (in_scene_order live))
    short = let l = placed-there.within in omega (arith, l, length-map (in_scene_order live) index_of)

    indices-puts : map index_of after_puts ≡ map Some (repaired (map index_of (in_scene_order live)))
    indices-puts = put-indices drawn (part_with live e coming.wide) coming.near e.id puts coming.beside apart_drawn
        apart-part ∙ indices-drawn

    count-puts : length after_puts ≡ length (map index_of (in_scene_order live))
    count-puts =
        sym (length-map after_puts (λ (x : ElementValue). x.id)) ∙ ap length ids-puts
        ∙ length-map drawn (λ (x : ElementValue). x.id) ∙ count-drawn

    from-with : (x : ElementValue) → Contains (insert live at' e) x → Contains live x ⊎ Contains (e ∷ []) x
    from-with x c =
        by (has_id x.id e) refl (sym (each-with x.id) ∙ member None None (insert live at' e) x ordered-with c) where
          by : (b : Bool) → has_id x.id e ≡ b → cond (has_id x.id e) (Some e) (element_of live x.id) ≡ Some x
              → Contains live x ⊎ Contains (e ∷ []) x
          by true own h =
              let same : Some e ≡ Some x = sym (ap (λ b. cond b (Some e) (element_of live x.id)) own) ∙ h in
              inr (subst (Contains (e ∷ [])) (same_Some e x same) (Contains-head e []))
          by false other h =
              inl (find-Some (has_id x.id) live x (sym (ap (λ b. cond b (Some e) (element_of live x.id)) other)
              ∙ h)).0

    pub IsView-with : IsView (insert live at' e) (rekeyed start keys (insert (all_put puts drawn) place own))
    IsView-with = IsView-near live drawn (e ∷ []) (insert live at' e)
        (rekeyed start keys (insert (all_put puts drawn) place own)) view (record {
          ordered = ordered-with;
          all_live = list_all-insert is_live live at' e is view.all_live;
          keys = ap (list_all is_key_or_none) (map-insert index_of live at' e)
              ∙ list_all-insert is_key_or_none (map index_of live) at' e.index
              (list_all-of-insert is_key_or_none (part_of (stored_keys live drawn) start keys_with.end')
              (place - start)
              e.index keys_with.repaired.are_keys) view.keys;
          start = coming.around.start;
          near = coming.near;
          wide = coming.wide;
          started = coming.around.started;
          reached = coming.around.reached;
          surrounded = coming.around.surrounded;
          kinds_kept =
              kinds-replaced live (insert live at' e) coming.around.start (e ∷ []) each-after
              (All-from_recursion (StaysKind live coming.around.start) (e ∷ []) (inr coming.around.namers, tt));
          others = λ id out. each-with id ∙ ap (λ b. cond b (Some e) (element_of live id))
              (false_from_ne_true (has_id id e) (λ is.
              let begins : IsStartedBy coming.around.start e =
              All-contains (IsStartedBy coming.around.start) (e ∷ []) e coming.around.started (Contains-head e []) in
              both_ways (is_among coming.around.start id) out (ap (is_among coming.around.start) (same_id id e is)
              ∙ begins.0)));
          from = from-with;
          ids = ids-rekeyed start keys (insert after_puts place own)
              ∙ map-insert (λ (x : ElementValue). x.id) after_puts place own
              ∙ ap₂ (λ xs (id : List ℕ). insert xs place id) (ids-puts ∙ ids-drawn) named
              ∙ sym (map-insert (λ (x : ElementValue). x.id) (in_scene_order live) place e)
              ∙ ap ids_of (sym order-is);
          indices =
              indices-with (map index_of (in_scene_order live)) place start keys never keys-all after_puts count-puts
              indices-puts e.index own short keys-of
              ∙ ap (λ ks. map Some (repaired ks)) (sym (map-insert index_of (in_scene_order live) place e)
              ∙ ap (map index_of) (sym order-is));
          drawn_near = near-with;
          drawn_far = far-with;
        })

    pub fits-with' : start + length keys ≤ length (insert (all_put puts drawn) place own)
    fits-with' =
        let l =
        fits-with (map index_of (in_scene_order live)) place start keys never keys-all e.index short keys-of in
        omega (arith, l, count-puts, length-insert after_puts place own)

  -- ---- where an element goes
  module _ (e : ElementValue) (at' place start : ℕ) (puts : List Put) (keys : List (List ℕ))
      (held : slice_get live at'
      ≡ Some e)
      (placed_at : IsAt drawn e.id place) (keys_without : AreKeysWithout (stored_keys live drawn) place start keys)
      (going : IsGoing live drawn e puts) where
    within : at' < length live
    within = slice_get_within live at' e held

    got : get_or live at' e ≡ e
    got = get_or_from_slice_get live at' e e held

    without-is : remove live at' ≡ others_than e.id live
    without-is = sym (others-removed live at' e apart within got)

    pub ordered-without : are_rising (ids_of (remove live at')) ≡ true
    ordered-without = ap (λ es. are_rising (ids_of es)) without-is ∙ others-rise e.id live view.ordered

    each-without' : (id : List ℕ) → element_of (remove live at') id
        ≡ cond (not (bytes_eq e.id id)) (element_of live id) None
    each-without' id = ap (λ es. element_of es id) without-is ∙ element-filter (λ n. not (bytes_eq e.id n)) live id

    pub each-without : (id : List ℕ) → element_of (remove live at') id
        ≡ cond (bytes_eq id e.id) None (element_of live id)
    each-without id = each-without' id ∙ ap (λ b. cond (not b) (element_of live id) None) (bytes_eq-turned e.id id)
        ∙ by (bytes_eq id e.id) where
          by : (b : Bool) → cond (not b) (element_of live id) None ≡ cond b None (element_of live id)
          by true = refl
          by false = refl

    pub HasGone-without : HasGone live e.id (remove live at')
    HasGone-without = record { ordered = ordered-without; each = each-without }

    apart-without : HaveDistinctIds (remove live at')
    apart-without = HaveDistinctIds-rising (remove live at') ordered-without

    known : element_of live e.id ≡ Some e
    known = element-at live view.ordered e.id at' e held refl

    -- its place in scene order
    at-order : (get_or (in_scene_order live) place e ≡ e) × (place < length (in_scene_order live))
    at-order = by (slice_get drawn place) refl placed_at where
      by : (o : Option ElementValue) → slice_get drawn place ≡ o → IsSomeAnd o (λ d. d.id ≡ e.id)
          → (get_or (in_scene_order live) place e ≡ e) × (place < length (in_scene_order live))
      by None h is = absurd is
      by (Some d) h is =
          let l : place < length drawn = slice_get_within drawn place d h in
          let there : get_or drawn place d ≡ d = get_or_from_slice_get drawn place d d h in
          let m : place < length (in_scene_order live) =
          omega (arith, l, count-drawn, length-map (in_scene_order live) index_of) in (
            get_or_default (in_scene_order live) place e (as_stored live d) m
                ∙ ap (λ es. get_or es place (as_stored live d)) (sym (stored-order live drawn view))
                ∙ get_or-map (as_stored live) drawn place d ∙ ap (as_stored live) there
                ∙ ap (λ o. unwrap_or o d) (ap (element_of live) is ∙ known),
            m,
          )

    apart-order : HaveDistinctIds (in_scene_order live)
    apart-order = HaveDistinctIds-permuted live _ (IsPermutation-in_scene_order live) apart

    none-without : (x : ElementValue) → Contains (in_scene_order (remove live at')) x → bytes_eq e.id x.id ≡ false
    none-without x c = by (bytes_eq e.id x.id) refl where
      by : (b : Bool) → bytes_eq e.id x.id ≡ b → bytes_eq e.id x.id ≡ false
      by false is = is
      by true is =
          let there = Contains-permutation _ (remove live at') x
          (IsPermutation-sym _ _ (IsPermutation-in_scene_order (remove live at'))) c in
          let found = member None None (remove live at') x ordered-without there in
          let gone : element_of (remove live at') x.id ≡ None =
          each-without' x.id ∙ ap (λ b. cond (not b) (element_of live x.id) None) is in
          let never : Some x ≡ None = sym found ∙ gone in cc

    order-without : in_scene_order (remove live at') ≡ remove (in_scene_order live) place
    order-without =
        sym (others-apart e.id (in_scene_order (remove live at')) none-without)
        ∙ sym (kept-order live (remove live at') view.ordered ordered-without (λ n. not (bytes_eq e.id n))
        (λ id h. each-without' id ∙ ap (λ b. cond b (element_of live id) None) h))
        ∙ others-removed (in_scene_order live) place e apart-order at-order.1 at-order.0

    -- what is shown
    part' : List ElementValue
    part' = part_of_ids live going.others

    apart-part' : HaveDistinctIds (part_of_ids live going.others)
    apart-part' =
        let found = filter_map (element_after live []) going.others in
        distinct-settled (in_scene_order found)
        (HaveDistinctIds-permuted found _ (IsPermutation-in_scene_order found)
        (distinct-after live [] going.others going.are.apart))

    order-others : in_scene_order (remove live at') ≡ others_than e.id (in_scene_order live)
    order-others =
        order-without ∙ sym (others-removed (in_scene_order live) place e apart-order at-order.1 at-order.0)

    -- the elements of the other ids are those of all ids once this one is gone
    part-order : in_scene_order (filter_map (element_of (remove live at')) going.wide)
        ≡ in_scene_order (filter_map (element_after live []) going.others)
    part-order =
        picked-in_order (remove live at') going.wide ordered-without going.around.surrounded.distinct
        ∙ ap (filter (λ (x : ElementValue). is_among going.wide x.id)) order-others
        ∙ filter-twice (λ (x : ElementValue). not (bytes_eq e.id x.id))
        (λ (x : ElementValue). is_among going.wide x.id)
        (λ (x : ElementValue). is_among going.others x.id)
        (λ x. going.are.each x.id ∙ ap (λ b. not b && is_among going.wide x.id) (bytes_eq-turned x.id e.id))
        (in_scene_order live)
        ∙ sym (picked-in_order live going.others view.ordered going.are.apart)

    part-is' : settled (in_scene_order (filter_map (element_of (remove live at')) going.wide))
        ≡ part_of_ids live going.others
    part-is' = ap settled part-order

    abbrev after_puts' : List ElementValue
    after_puts' = all_put puts drawn

    ids-puts' : ids_of after_puts' ≡ ids_of drawn
    ids-puts' =
        put-ids drawn (part_of_ids live going.others) going.near e.id puts going.beside apart_drawn apart-part'

    count-puts' : length after_puts' ≡ length (map index_of (in_scene_order live))
    count-puts' =
        sym (length-map after_puts' (λ (x : ElementValue). x.id)) ∙ ap length ids-puts'
        ∙ length-map drawn (λ (x : ElementValue). x.id) ∙ count-drawn

    indices-puts' : map index_of after_puts' ≡ map Some (repaired (map index_of (in_scene_order live)))
    indices-puts' = put-indices drawn (part_of_ids live going.others) going.near e.id puts going.beside apart_drawn
        apart-part' ∙ indices-drawn

    apart-puts' : HaveDistinctIds after_puts'
    apart-puts' = subst (IsDistinct bytes_eq) (sym ids-puts') apart_drawn

    -- the one that is shown at the place
    at-puts : (d : ElementValue) → get_or after_puts' place d ≡ d → bytes_eq e.id d.id ≡ true
    at-puts d got' =
        let m : place < length after_puts' =
        omega (arith, at-order.1, count-puts', length-map (in_scene_order live) index_of) in
        let n : place < length (ids_of after_puts') =
        omega (arith, m, length-map after_puts' (λ (x : ElementValue). x.id)) in
        let id : d.id ≡ e.id =
        ap (λ (x : ElementValue). x.id) (sym got')
        ∙ sym (get_or-map (λ (x : ElementValue). x.id) after_puts' place d)
        ∙ get_or_default (ids_of after_puts') place d.id e.id n
        ∙ ap (λ xs. get_or xs place e.id) (ids-puts' ∙ ids-drawn)
        ∙ get_or-map (λ (x : ElementValue). x.id) (in_scene_order live) place e
        ∙ ap (λ (x : ElementValue). x.id) at-order.0 in
        of_same e.id d (sym id)

    removed-is : remove after_puts' place ≡ others_than e.id after_puts'
    removed-is =
        let m : place < length after_puts' =
        omega (arith, at-order.1, count-puts', length-map (in_scene_order live) index_of) in
        let d = get_or after_puts' place e in
        let same : get_or after_puts' place d ≡ d = get_or_default after_puts' place d e m in
        sym (others-removed after_puts' place d apart-puts' m same)
        ∙ ap (λ n. others_than n after_puts') (sym (same_id e.id d (at-puts d same)))

    others-without : (id : List ℕ) → option_map without_index
        (element_of (rekeyed start keys (remove (all_put puts drawn) place)) id)
        ≡ option_map without_index (cond (not (bytes_eq e.id id)) (element_of (all_put puts drawn) id) None)
    others-without id =
        keyless (rekeyed start keys (remove after_puts' place)) id
        ∙ ap (λ es. element_of es id) (others-rekeyed start keys (remove after_puts' place))
        ∙ sym (keyless (remove after_puts' place) id)
        ∙ ap (option_map without_index) (ap (λ es. element_of es id) removed-is
        ∙ element-filter (λ n. not (bytes_eq e.id n)) after_puts' id)

    near-without : (id : List ℕ) (x : ElementValue) → is_among going.near id ≡ true
        → settled_but_for_key (in_scene_order (filter_map (element_of (remove live at')) going.wide)) id ≡ Some x
        → option_map without_index (element_of (rekeyed start keys (remove (all_put puts drawn) place)) id)
        ≡ settled_but_for_key (in_scene_order (filter_map (element_of (remove live at')) going.wide)) id
    near-without id x h there =
        let part = ap (λ es. option_map without_index (element_of es id)) part-is' in
        others-without id ∙ elim (cases_Bool (bytes_eq e.id id)) [
          | inl own ↦ absurd (gone-part ((bytes_eq-Decides e.id id).0 own) (sym part ∙ there))
          | inr off ↦
              ap (λ b. option_map without_index (cond (not b) (element_of after_puts' id) None)) off
              ∙ put-near drawn (part_of_ids live going.others) going.near e.id puts going.beside apart_drawn
              apart-part'
              id x h (bytes_eq-turned id e.id ∙ off) (sym part ∙ there)
        ] ∙ sym part
      where
        -- the part has no element of its id
        gone-part : e.id ≡ id → option_map without_index (element_of (part_of_ids live going.others) id) ≡ Some x → ⊥
        gone-part same there = by (element_of (part_of_ids live going.others) id) refl there where
          by : (o : Option ElementValue) → element_of (part_of_ids live going.others) id ≡ o
              → option_map without_index o ≡ Some x → ⊥
          by None is h = cc
          by (Some y) is h =
              let found = find-Some (has_id id) (part_of_ids live going.others) y is in
              let z = one-of-ids (part_of_ids live going.others)
              (in_scene_order (filter_map (element_of (remove live at')) going.wide))
              (ids-settled (in_scene_order (filter_map (element_after live []) going.others))
              ∙ ap ids_of (sym part-order)) y found.0 in
              let w = filter-Contains (λ (v : ElementValue). is_among going.wide v.id)
              (in_scene_order (remove live at')) z.0
              (subst (λ es. Contains es z.0) (picked-in_order (remove live at') going.wide ordered-without
              going.around.surrounded.distinct) z.1) in
              both_ways (bytes_eq e.id z.0.id) (none-without z.0 w.0)
              (of_same e.id z.0 (same ∙ same_id id y found.1 ∙ z.2))

    far-without : (id : List ℕ) → is_among going.near id ≡ false
        → option_map without_index (element_of (rekeyed start keys (remove (all_put puts drawn) place)) id)
        ≡ option_map without_index (element_of drawn id)
    far-without id out =
        let off : bytes_eq e.id id ≡ false =
        false_from_ne_true (bytes_eq e.id id)
        (λ own. both_ways (is_among going.near id) out
        (ap (is_among going.near) (sym ((bytes_eq-Decides e.id id).0 own))
        ∙ own-near live e going.near going.wide going.around)) in
        others-without id ∙ ap (λ b. option_map without_index (cond (not b) (element_of after_puts' id) None)) off
        ∙ ap (option_map without_index) (put-far drawn (part_of_ids live going.others) going.near e.id puts
        going.beside
        apart_drawn apart-part' id out)

    keys-of' : AreKeysWithout (map index_of (in_scene_order live)) place start keys
    keys-of' = subst (λ ks. AreKeysWithout ks place start keys) keys-are keys_without

    short' : place < length (map index_of (in_scene_order live))
    short' = omega (arith, at-order.1, length-map (in_scene_order live) index_of)

    from-without : (x : ElementValue) → Contains (remove live at') x → Contains live x
    from-without x c =
        (filter-Contains (λ (y : ElementValue). not (bytes_eq e.id y.id)) live x
        (subst (λ es. Contains es x) without-is c)).0

    pub IsView-without : IsView (remove live at') (rekeyed start keys (remove (all_put puts drawn) place))
    IsView-without = IsView-near live drawn (e ∷ []) (remove live at')
        (rekeyed start keys (remove (all_put puts drawn) place)) view (record {
          ordered = ordered-without;
          all_live = list_all-remove is_live live at' view.all_live;
          keys = ap (list_all is_key_or_none) (map-remove index_of live at')
              ∙ list_all-remove is_key_or_none (map index_of live) at' view.keys;
          start = going.around.start;
          near = going.near;
          wide = going.wide;
          started = going.around.started;
          reached = going.around.reached;
          surrounded = going.around.surrounded;
          kinds_kept =
              kinds-gone live (remove live at') going.around.start e.id each-without going.around.namers;
          others = λ id out. each-without' id
              ∙ ap (λ b. cond (not b) (element_of live id) None) (false_from_ne_true (bytes_eq e.id id) (λ own.
              let begins : IsStartedBy going.around.start e =
              All-contains (IsStartedBy going.around.start) (e ∷ []) e going.around.started (Contains-head e []) in
              both_ways (is_among going.around.start id) out
              (ap (is_among going.around.start) (sym ((bytes_eq-Decides e.id id).0 own)) ∙ begins.0)));
          from = λ x c. inl (from-without x c);
          ids =
              ids-rekeyed start keys (remove after_puts' place)
              ∙ map-remove (λ (x : ElementValue). x.id) after_puts' place
              ∙ ap (λ xs. remove xs place) (ids-puts' ∙ ids-drawn)
              ∙ sym (map-remove (λ (x : ElementValue). x.id) (in_scene_order live) place)
              ∙ ap ids_of (sym order-without);
          indices = indices-without (map index_of (in_scene_order live)) place start keys never keys-all after_puts'
              count-puts' indices-puts' short' keys-of'
              ∙ ap (λ ks. map Some (repaired ks)) (sym (map-remove index_of (in_scene_order live) place)
              ∙ ap (map index_of) (sym order-without));
          drawn_near = near-without;
          drawn_far = far-without;
        })

    pub fits-without' : start + length keys ≤ length (remove (all_put puts drawn) place)
    fits-without' =
        let l = fits-without (map index_of (in_scene_order live)) place start keys never keys-all short' keys-of' in
        let m : place < length after_puts' =
        omega (arith, at-order.1, count-puts', length-map (in_scene_order live) index_of) in
        omega (arith, l, count-puts', length-remove after_puts' place m)

-- what is put is put at places of the list
pub all-within : (es : List ElementValue) (puts : List Put) → All (IsInPlace es) puts → All (IsWithin es) puts
all-within es puts placed = All-weaker (IsInPlace es) (IsWithin es) (λ put is. IsWithin-place es put is) puts placed

-- where no element is of an id, it is gone already
pub gone-already : (live : List ElementValue) (id : List ℕ) (i : ℕ) → are_rising (ids_of live) ≡ true
    → IsGapFor live id i → HasGone live id live
gone-already live id i rising gap =
    record { ordered = rising; each = λ other. by other (bytes_eq other id) refl } where
      by : (other : List ℕ) (b : Bool) → bytes_eq other id ≡ b
          → element_of live other ≡ cond b None (element_of live other)
      by other true is = ap (element_of live) ((bytes_eq-Decides other id).0 is) ∙ element-gap live id i gap
      by other false is = refl
