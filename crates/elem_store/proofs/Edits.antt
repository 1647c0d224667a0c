-- What a store becomes where an element is put among its elements.
use Rattle.std.proofs.Common.{◌≡◌, ℕ, ◌<◌, Bool, true, false, cond, ◌&&◌, List, [], ◌∷◌, ◌++◌, length, take, drop, set, Option, Some, None, All, Contains, slice_get, find, insert, bytes_eq, refl, sym, ap, ◌∙◌, subst, inl, inr, take-append-drop, get_or-set_same, length-set}
use Rattle.std.specs.List.{AllByRecursion}
use Rattle.std.specs.Option.{option_map_or, option_or}
use Rattle.std.proofs.lemmas.Bool.{cases_Bool, and_from, and_parts, cond-false}
use Rattle.std.proofs.lemmas.List.{map-set, set-get_or, get_or-map}
use Rattle.std.proofs.lemmas.List.Elements.{Contains-append_right, All-append, All-contains, All-weaker, recursion_from_All}
use Rattle.std.proofs.lemmas.List.Folds.{find-append, find_past}
use Rattle.std.proofs.lemmas.Option.{slice_get_within, get_or_from_slice_get}
use Rattle.frac_keys.specs.Keys.{bytes_less}
use Rattle.frac_keys.specs.Rising.{ends_rise, rise_between, are_rising}
use Rattle.elem.specs.ElementValue.{ElementValue}
use Rattle.elem.specs.Order.{beats, has_id}
use Rattle.elem_store.specs.Updates.{element_of, ids_of, is_taken, HasTaken}
use Rattle.elem_store.specs.Places.{IsGapFor}
use Rattle.elem_store.proofs.Ids.{same_id, of_other}
use Rattle.elem_store.proofs.Lists.{find-None, Contains-head}
use Rattle.elem_store.proofs.Rising.{member, less-other}

-- an update that is taken is the element of its id, and the elements of other ids stay
HasTaken-from : (elements new : List ElementValue) (e : ElementValue) → are_rising (ids_of new) ≡ true → Contains new e
    → is_taken elements e ≡ true → ((id : List ℕ) → has_id id e ≡ false → element_of new id ≡ element_of elements id)
    → HasTaken elements e new
HasTaken-from elements new e rising among taken others = record { ordered = rising; each = each }
  where
    each : (id : List ℕ) → element_of new id ≡ cond (has_id id e && is_taken elements e) (Some e)
        (element_of elements id)
    each id =
        let given = λ (own : Bool) (taken : Bool). cond (own && taken) (Some e) (element_of elements id) in
        elim (cases_Bool (has_id id e)) [
          | inl t ↦ ap (element_of new) (same_id id e t) ∙ member None None new e rising among
              ∙ sym (ap (λ b. given b (is_taken elements e)) t ∙ ap (given true) taken)
          | inr f ↦ others id f ∙ sym (ap (λ b. given b (is_taken elements e)) f)
        ]

-- one that isn't taken changes nothing
pub HasTaken-not : (elements : List ElementValue) (e : ElementValue) → are_rising (ids_of elements) ≡ true
    → is_taken elements e ≡ false → HasTaken elements e elements
HasTaken-not elements e rising not_taken = record { ordered = rising; each = each }
  where
    each : (id : List ℕ) → element_of elements id ≡ cond (has_id id e && is_taken elements e) (Some e)
        (element_of elements id)
    each id =
        elim (has_id id e) as (λ b. element_of elements id
        ≡ cond (b && is_taken elements e) (Some e) (element_of elements id)) [
          | true ↦ sym (cond-false (is_taken elements e) (Some e) (element_of elements id) not_taken)
          | false ↦ refl
        ]

module _ (elements : List ElementValue) (rising : are_rising (ids_of elements) ≡ true) where
  -- the element at the place of an id is the one of that id
  pub element-at : (id : List ℕ) (i : ℕ) (x : ElementValue) → slice_get elements i ≡ Some x → x.id ≡ id
      → element_of elements id ≡ Some x
  element-at id i x h e =
      ap (element_of elements) (sym e) ∙ member None None elements x rising (
        i,
        slice_get_within elements i x h,
        get_or_from_slice_get elements i x x h,
      )

  module _ (e : ElementValue) (i : ℕ) (x : ElementValue) (at : slice_get elements i ≡ Some x) (same : x.id ≡ e.id) where
    within : i < length elements
    within = slice_get_within elements i x at

    pub is_taken-at : is_taken elements e ≡ beats e x
    is_taken-at = ap (λ o. option_map_or (beats e) o true) (element-at e.id i x at same)

    -- an element in the place of one of its id leaves the ids as they are
    pub ids-set : ids_of (set elements i e) ≡ ids_of elements
    ids-set =
        map-set (λ (y : ElementValue). y.id) elements i e
        ∙ ap (set (ids_of elements) i) (sym same
        ∙ ap (λ (y : ElementValue). y.id) (sym (get_or_from_slice_get elements i x e at))
        ∙ sym (get_or-map (λ (y : ElementValue). y.id) elements i e e.id within))
        ∙ set-get_or (ids_of elements) i e.id

    pub HasTaken-set : beats e x ≡ true → HasTaken elements e (set elements i e)
    HasTaken-set better =
        HasTaken-from elements (set elements i e) e (ap are_rising ids-set ∙ rising)
        (i, rw (length-set elements i e) within, get_or-set_same elements i e e within)
        (is_taken-at ∙ better)
        (λ id f. find_past (has_id id) elements i e e (ap (has_id id) (get_or_from_slice_get elements i x e at)
        ∙ ap (bytes_eq id) same ∙ f) f)

-- keys that rise still rise with one more between the lesser and the greater ones
rising-between : (a b : Option (List ℕ)) (before after : List ElementValue) (e : ElementValue)
    → rise_between a b (ids_of (before ++ after)) ≡ true
    → AllByRecursion (λ (x : ElementValue). bytes_less x.id e.id ≡ true) before
    → AllByRecursion (λ (x : ElementValue). bytes_less e.id x.id ≡ true) after → ends_rise a (Some e.id) ≡ true
    → ends_rise (Some e.id) b ≡ true → rise_between a b (ids_of (before ++ e ∷ after)) ≡ true
rising-between a b [] [] e h less greater low high =
    and_from (ends_rise a (Some e.id)) (ends_rise (Some e.id) b) low high
rising-between a b [] (x ∷ after) e h less greater low high =
    and_from (ends_rise a (Some e.id)) (rise_between (Some e.id) b (ids_of (x ∷ after))) low
    (and_from (bytes_less e.id x.id) (rise_between (Some x.id) b (ids_of after)) greater.0
    (and_parts (ends_rise a (Some x.id)) (rise_between (Some x.id) b (ids_of after)) h).1)
rising-between a b (x ∷ before) after e h less greater low high =
    let parts = and_parts (ends_rise a (Some x.id)) (rise_between (Some x.id) b (ids_of (before ++ after))) h in
    and_from (ends_rise a (Some x.id)) (rise_between (Some x.id) b (ids_of (before ++ e ∷ after))) parts.0
    (rising-between (Some x.id) b before after e parts.1 less.1 greater less.0 high)

-- an id that has a gap has no element
pub element-gap : (elements : List ElementValue) (id : List ℕ) (i : ℕ) → IsGapFor elements id i
    → element_of elements id ≡ None
element-gap elements id i gap =
    let before = All-weaker (λ (x : ElementValue). bytes_less x.id id ≡ true) (λ x. has_id id x ≡ false)
    (λ x l. of_other id x (λ same. less-other x.id id l (sym same))) (take i elements) gap.less_before in
    let after = All-weaker (λ (x : ElementValue). bytes_less id x.id ≡ true) (λ x. has_id id x ≡ false)
    (λ x l. of_other id x (less-other id x.id l)) (drop i elements) gap.greater_after in
    let all = All-append (λ x. has_id id x ≡ false) (take i elements) (drop i elements) before after in
    find-None (has_id id) elements (λ x c. All-contains (λ x. has_id id x ≡ false) elements x
    (subst (All (λ x. has_id id x ≡ false)) (take-append-drop i elements) all) c)

-- so an update of it is taken
pub is_taken-gap : (elements : List ElementValue) (e : ElementValue) (i : ℕ) → IsGapFor elements e.id i
    → is_taken elements e ≡ true
is_taken-gap elements e i gap = ap (λ o. option_map_or (beats e) o true) (element-gap elements e.id i gap)

pub HasTaken-insert : (elements : List ElementValue) (e : ElementValue) (i : ℕ) → are_rising (ids_of elements) ≡ true
    → IsGapFor elements e.id i → HasTaken elements e (insert elements i e)
HasTaken-insert elements e i rising gap =
    let before = take i elements in
    let after = drop i elements in
    let whole : before ++ after ≡ elements = take-append-drop i elements in
    HasTaken-from elements (before ++ e ∷ after) e
    (rising-between None None before after e (ap (λ x. are_rising (ids_of x)) whole ∙ rising)
    (recursion_from_All (λ (x : ElementValue). bytes_less x.id e.id ≡ true) before gap.less_before)
    (recursion_from_All (λ (x : ElementValue). bytes_less e.id x.id ≡ true) after gap.greater_after) refl refl)
    (Contains-append_right before (e ∷ after) e (Contains-head e after))
    (is_taken-gap elements e i gap)
    (λ id f. find-append (has_id id) before (e ∷ after)
    ∙ ap (λ o. option_or (find (has_id id) before) o) (cond-false (has_id id e) (Some e) (find (has_id id) after) f)
    ∙ sym (find-append (has_id id) before after) ∙ ap (find (has_id id)) whole)
