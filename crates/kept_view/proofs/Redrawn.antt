-- A view in which an element takes the place of one of the same outline.
use Rattle.std.proofs.Common.{◌≡◌, ℕ, zero, suc, Bool, true, false, cond, ◌&&◌, List, [], ◌∷◌, map, set, get_or, Option, Some, None, IsSomeAnd, Contains, bytes_eq, refl, sym, ap, ap₂, ◌∙◌, subst, inl, inr}
use Rattle.std.specs.Prelude.{slice_get}
use Rattle.std.specs.Option.{option_map}
use Rattle.std.specs.List.{AllByRecursion, IsDistinct, list_all}
use Rattle.std.specs.Cmp.Lexicographic.{nat_list_eq_equiv}
use Rattle.std.proofs.lemmas.Bool.{cases_Bool, and_parts}
use Rattle.std.proofs.lemmas.Option.{same_Some, get_or_from_slice_get, slice_get_within}
use Rattle.std.proofs.lemmas.List.Sorted.{Contains-permutation, IsPermutation-sym}
use Rattle.std.proofs.lemmas.Slice.Eq.{bytes_eq-Decides}
use Rattle.frac_keys.specs.Rising.{are_rising, is_key_or_none}
use Rattle.elem.specs.ElementValue.{ElementValue}
use Rattle.elem.specs.Order.{has_id, HaveDistinctIds}
use Rattle.elem_store.specs.Updates.{element_of, ids_of}
use Rattle.elem_store.proofs.CallerLemmas.{same_id, find-Some, member}
use Rattle.elem_store.proofs.CallerLemmas as rows
use Rattle.links.proofs.CallerLemmas.{map-map}
use Rattle.kept_view.specs.inner.Changes.{outline, redrawn_as, HasRedrawn, IsRedrawn}
use Rattle.index_repair.specs.Keyed.{index_of}
use Rattle.view.specs.Shown.{is_live, in_scene_order, shown, bare, IsView}
use Rattle.view.proofs.CallerLemmas.{HaveDistinctIds-rising, IsPermutation-in_scene_order, shown-redrawn}
use Rattle.kept_view.proofs.PlacedLaws.{bare-shown, shown-distinct}

-- ---- an element with the content of another one
module _ (new : ElementValue) where
  filled : Bool → ElementValue → ElementValue
  filled b e = record e {
    version = cond b new.version e.version;
    nonce = cond b new.nonce e.nonce;
    updated = cond b new.updated e.updated;
    file = cond b new.file e.file;
    rest = cond b new.rest e.rest;
  }

  pub other-stays : (e : ElementValue) → bytes_eq new.id e.id ≡ false → redrawn_as new e ≡ e
  unfolding filled
  other-stays e other = ap (λ b. filled b e) other

  pub takes-place : (old : ElementValue) → outline old ≡ outline new → redrawn_as new old ≡ new
  unfolding filled
  takes-place old one =
      let same : bytes_eq new.id old.id ≡ true =
      (bytes_eq-Decides new.id old.id).1 (sym (ap (λ (e : ElementValue). e.id) one)) in
      ap (λ b. filled b old) same ∙ ap (filled true) one

  -- ---- among elements of other ids
  others-stay : (id : List ℕ) (es : List ElementValue) → id ≡ new.id
      → AllByRecursion (λ other. bytes_eq id other ≡ false) (ids_of es) → map (redrawn_as new) es ≡ es
  others-stay id [] same apart = refl
  others-stay id (e ∷ es) same apart =
      ap₂ (λ f fs. f ∷ fs) (other-stays e (ap (λ i. bytes_eq i e.id) (sym same) ∙ apart.0))
      (others-stay id es same apart.1)

  apart_at : (id : List ℕ) (es : List ElementValue) (i : ℕ) (s : ElementValue) → slice_get es i ≡ Some s
      → AllByRecursion (λ other. bytes_eq id other ≡ false) (ids_of es) → bytes_eq id s.id ≡ false
  apart_at id [] i s at' apart = cc
  apart_at id (e ∷ es) zero s at' apart =
      ap (λ (f : ElementValue). bytes_eq id f.id) (sym (same_Some e s at')) ∙ apart.0
  apart_at id (e ∷ es) (suc i) s at' apart = apart_at id es i s at' apart.1

  pub map-one : (es : List ElementValue) (i : ℕ) (s : ElementValue) → HaveDistinctIds es → slice_get es i ≡ Some s
      → s.id ≡ new.id → map (redrawn_as new) es ≡ set es i (redrawn_as new s)
  unfolding IsDistinct
  map-one [] i s distinct at' same = cc
  map-one (e ∷ es) zero s distinct at' same =
      let here : e ≡ s = same_Some e s at' in
      ap₂ (λ f fs. f ∷ fs) (ap (redrawn_as new) here) (others-stay e.id es (ap (λ (f : ElementValue). f.id) here
      ∙ same) distinct.0)
  map-one (e ∷ es) (suc i) s distinct at' same =
      let apart = apart_at e.id es i s at' distinct.0 in
      ap₂ (λ f fs. f ∷ fs) (other-stays e (nat_list_eq_equiv.symm new.id e.id
      ∙ (ap (bytes_eq e.id) (sym same) ∙ apart))) (map-one es i s distinct.1 at' same)

  -- ---- the view of such elements
  live-redrawn : (es : List ElementValue) → list_all is_live (map (redrawn_as new) es) ≡ list_all is_live es
  live-redrawn [] = refl
  live-redrawn (e ∷ es) = ap (λ b. is_live e && b) (live-redrawn es)

  pub ids-redrawn : (es : List ElementValue) → ids_of (map (redrawn_as new) es) ≡ ids_of es
  ids-redrawn es = map-map (λ (e : ElementValue). e.id) (redrawn_as new) es

  pub shown-redrawn_as : (es : List ElementValue) → shown (map (redrawn_as new) es) ≡ map (redrawn_as new) (shown es)
  shown-redrawn_as es =
      shown-redrawn (λ id n. cond (bytes_eq new.id id) new.version n) (λ id n. cond (bytes_eq new.id id) new.nonce n)
      (λ id n. cond (bytes_eq new.id id) new.updated n)
      (λ id f. cond (bytes_eq new.id id) new.file f) (λ id ms. cond (bytes_eq new.id id) new.rest ms) es

  pub IsView-redrawn : (live elements : List ElementValue) → IsView live elements
      → IsView (map (redrawn_as new) live) (map (redrawn_as new) elements)
  IsView-redrawn live elements view = record {
    exact = ap (map (redrawn_as new)) view.exact ∙ sym (shown-redrawn_as live);
    ordered = ap are_rising (ids-redrawn live) ∙ view.ordered;
    all_live = live-redrawn live ∙ view.all_live;
    keys = ap (list_all is_key_or_none) (map-map index_of (redrawn_as new) live) ∙ view.keys;
  }

-- ---- an option that is there
pub there : {X : Type 0} (P : X → Type 0) (o : Option X) → IsSomeAnd o P → (x : X) × (o ≡ Some x) × P x
there P (Some x) is = (x, refl, is)
there P None is = absurd is

-- ---- the places
module _ (live elements : List ElementValue) (new : ElementValue) (held_at shown_at : ℕ) (redrawn : ElementValue)
    (view : IsView live elements) (is : IsRedrawn live new held_at shown_at redrawn) where
  pub held-redrawn : set live held_at new ≡ map (redrawn_as new) live
  held-redrawn =
      let old = there (λ old. outline old ≡ outline new) (slice_get live held_at) is.held in
      sym (map-one new live held_at old.0 (HaveDistinctIds-rising live view.ordered) old.1
      (ap (λ (e : ElementValue). e.id) old.2) ∙ ap (set live held_at) (takes-place new old.0 old.2))

  distinct-shown : HaveDistinctIds (shown live)
  distinct-shown = shown-distinct live (HaveDistinctIds-rising live view.ordered) view.keys

  pub shown-redrawn_at : set elements shown_at redrawn ≡ map (redrawn_as new) elements
  shown-redrawn_at =
      let s = there (λ (e : ElementValue). (e.id ≡ new.id)
      × (redrawn ≡ redrawn_as new e)) (slice_get (shown live) shown_at) is.shown in
      ap (λ es. set es shown_at redrawn) view.exact
      ∙ (ap (set (shown live) shown_at) s.2.1 ∙ (sym (map-one new (shown live) shown_at s.0 distinct-shown s.1 s.2.0)
      ∙ ap (map (redrawn_as new)) (sym view.exact)))

  pub IsView-put : IsView (set live held_at new) (set elements shown_at redrawn)
  IsView-put = rw (held-redrawn, shown-redrawn_at) (IsView-redrawn new live elements view)

-- ---- what is shown of a live element
at-map : (es fs : List ElementValue) (i : ℕ) (s : ElementValue) → map bare es ≡ map bare fs → slice_get es i ≡ Some s
    → (o : ElementValue) × (slice_get fs i ≡ Some o) × (bare s ≡ bare o)
at-map [] fs i s same at' = cc
at-map (e ∷ es) [] i s same at' = cc
at-map (e ∷ es) (f ∷ fs) zero s same at' = (f, refl, ap bare (sym (same_Some e s at')) ∙ cc)
at-map (e ∷ es) (f ∷ fs) (suc i) s same at' = at-map es fs i s (cc) at'

pub origin : (live elements : List ElementValue) (i : ℕ) (s : ElementValue) → IsView live elements
    → slice_get elements i ≡ Some s → (o : ElementValue) × (element_of live s.id ≡ Some o) × (bare s ≡ bare o)
origin live elements i s view at' =
    let ordered = in_scene_order live in
    let o = at-map elements ordered i s (ap (map bare) view.exact ∙ bare-shown live view.keys) at' in
    let among : Contains ordered o.0 =
    (i, slice_get_within ordered i o.0 o.1, get_or_from_slice_get ordered i o.0 o.0 o.1) in
    let held =
    Contains-permutation ordered live o.0 (IsPermutation-sym _ _ (IsPermutation-in_scene_order live)) among in
    (o.0, ap (λ (e : ElementValue). element_of live e.id) o.2 ∙ member None None live o.0 view.ordered held, o.2)

-- ---- what the code finds
pub at_place : (P : ElementValue → Type 0) (es : List ElementValue) (i : ℕ) (e : ElementValue)
    → IsSomeAnd (slice_get es i) P → e ≡ get_or es i e → (slice_get es i ≡ Some e) × P e
at_place P es i e is at' =
    let x = there P (slice_get es i) is in
    let same : x.0 ≡ e = sym (at' ∙ get_or_from_slice_get es i x.0 e x.1) in
    (x.1 ∙ ap Some same, subst P same x.2)

pub same_kind : (live elements : List ElementValue) (new old s : ElementValue) (held_at shown_at : ℕ)
    → IsView live elements → slice_get live held_at ≡ Some old → outline old ≡ outline new
    → slice_get elements shown_at ≡ Some s → s.id ≡ new.id → new.kind ≡ s.kind
same_kind live elements new old s held_at shown_at view held one at' same =
    let o = origin live elements shown_at s view at' in
    let among : Contains live old =
    (held_at, slice_get_within live held_at old held, get_or_from_slice_get live held_at old old held) in
    let named : s.id ≡ old.id = same ∙ sym (ap (λ (e : ElementValue). e.id) one) in
    let is : o.0 ≡ old =
    same_Some o.0 old (sym o.1 ∙ (ap (element_of live) named ∙ member None None live old view.ordered among)) in
    sym (ap (λ (e : ElementValue). e.kind) o.2
    ∙ (ap (λ (e : ElementValue). e.kind) is ∙ ap (λ (e : ElementValue). e.kind) one))

among-live : (es : List ElementValue) (i : ℕ) (e : ElementValue) → list_all is_live es ≡ true → slice_get es i ≡ Some e
    → is_live e ≡ true
among-live [] i e all at' = cc
among-live (f ∷ es) zero e all at' =
    ap is_live (sym (same_Some f e at')) ∙ (and_parts (is_live f) (list_all is_live es) all).0
among-live (f ∷ es) (suc i) e all at' = among-live es i e (and_parts (is_live f) (list_all is_live es) all).1 at'

pub IsRedrawn-from : (live elements : List ElementValue) (new old s redrawn : ElementValue) (held_at shown_at : ℕ)
    → IsView live elements → slice_get live held_at ≡ Some old → outline old ≡ outline new
    → slice_get elements shown_at ≡ Some s → s.id ≡ new.id → redrawn ≡ redrawn_as new s
    → IsRedrawn live new held_at shown_at redrawn
IsRedrawn-from live elements new old s redrawn held_at shown_at view held one at' same is = record {
  ordered = view.ordered;
  is_live = ap is_live (sym one) ∙ among-live live held_at old view.all_live held;
  held = rw held one;
  shown = rw (← view.exact, at') (same, is);
}

-- ---- in a view that has redrawn an element
pub HasRedrawn-from : (live redrawn_live : List ElementValue) (new : ElementValue) (held_at shown_at : ℕ)
    (redrawn : ElementValue)
    → IsRedrawn live new held_at shown_at redrawn → redrawn_live ≡ map (redrawn_as new) live
    → HasRedrawn live new redrawn_live
HasRedrawn-from live redrawn_live new held_at shown_at redrawn is place =
    let P : ElementValue → Type 0 = λ e. outline e ≡ outline new in
    let old = there P (slice_get live held_at) is.held in
    let among : Contains live old.0 =
    (held_at, slice_get_within live held_at old.0 old.1, get_or_from_slice_get live held_at old.0 old.0 old.1) in
    let found = ap (element_of live) (sym (ap (λ (e : ElementValue). e.id) old.2))
    ∙ member None None live old.0 is.ordered among in
    record { ordered = is.ordered; is_live = is.is_live; old = rw found old.2; place = place }

-- the element of an id after that
pub element-redrawn : (new : ElementValue) (id : List ℕ) (es : List ElementValue)
    → element_of (map (redrawn_as new) es) id ≡ option_map (redrawn_as new) (element_of es id)
element-redrawn new id [] = refl
element-redrawn new id (e ∷ es) =
    elim (bytes_eq id e.id) as (λ b. cond b (Some (redrawn_as new e)) (element_of (map (redrawn_as new) es) id)
    ≡ option_map (redrawn_as new) (cond b (Some e) (element_of es id))) [
      | true ↦ refl
      | false ↦ element-redrawn new id es
    ]

element-new : (new : ElementValue) (es : List ElementValue)
    → IsSomeAnd (element_of es new.id) (λ e. outline e ≡ outline new)
    → element_of (map (redrawn_as new) es) new.id ≡ Some new
element-new new es is =
    let P : ElementValue → Type 0 = λ e. outline e ≡ outline new in
    let old = there P (element_of es new.id) is in
    element-redrawn new new.id es ∙ (ap (option_map (redrawn_as new)) old.1 ∙ ap Some (takes-place new old.0 old.2))

element-other : (new : ElementValue) (id : List ℕ) (es : List ElementValue) → bytes_eq new.id id ≡ false
    → element_of (map (redrawn_as new) es) id ≡ element_of es id
element-other new id es other = element-redrawn new id es ∙ by (element_of es id) refl where
  by : (o : Option ElementValue) → element_of es id ≡ o → option_map (redrawn_as new) o ≡ o
  by None is = refl
  by (Some e) is =
      let named = same_id id e (find-Some (has_id id) es e is).1 in
      ap Some (other-stays new e (ap (bytes_eq new.id) (sym named) ∙ other))

-- elements that are others' but for that of one id, which they have redrawn, are the others
pub all-redrawn : (live target redrawn : List ElementValue) (new : ElementValue) → are_rising (ids_of target) ≡ true
    → HasRedrawn live new redrawn
    → element_of target new.id ≡ Some new
    → ((id : List ℕ) → bytes_eq id new.id ≡ false → element_of live id ≡ element_of target id) → redrawn ≡ target
all-redrawn live target redrawn new up has own others =
    let all = map (redrawn_as new) live in
    has.place ∙ rows.same_elements all target (ap are_rising (ids-redrawn new live) ∙ has.ordered) up each
  where
    each : (id : List ℕ) → element_of (map (redrawn_as new) live) id ≡ element_of target id
    each id = elim (cases_Bool (bytes_eq id new.id)) [
      | inl is ↦
          let same : id ≡ new.id = (bytes_eq-Decides id new.id).0 is in
          ap (element_of (map (redrawn_as new) live)) same
          ∙ (element-new new live has.old ∙ (sym own ∙ ap (element_of target) (sym same)))
      | inr other ↦ element-other new id live (nat_list_eq_equiv.symm new.id id ∙ other) ∙ others id other
    ]
