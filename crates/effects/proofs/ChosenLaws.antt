-- The stored elements of some ids, in the order of these: what an effect changes of them is what it changes of all,
-- where it leaves the others as they are.
use Rattle.std.proofs.Common.{◌≡◌, ℕ, Bool, true, false, ◌&&◌, ◌||◌, List, [], ◌∷◌, Option, Some, None, Contains, filter, find, bytes_eq, nat_cmp, if◌then◌else◌, inl, inr, refl, sym, ap, ◌∙◌, subst}
use Rattle.std.specs.BTreeSet.{BTreeSet, contains}
use Rattle.std.specs.Cmp.Lexicographic.{slice_cmp}
use Rattle.std.specs.List.{cons_option, filter_map, list_any}
use Rattle.std.specs.List.Sorted.{IsStrictlySortedBy}
use Rattle.std.specs.Option.{option_and_then, option_map}
use Rattle.std.proofs.lemmas.Bool.{cases_Bool, and_from, and_parts}
use Rattle.std.proofs.lemmas.Map.Text.{is_eq-slice_cmp}
use Rattle.json_text.proofs.CallerLemmas.{bytes_eq-true}
use Rattle.frac_keys.specs.Rising.{ends_rise, rise_between, are_rising}
use Rattle.frac_keys.proofs.CallerLemmas.{sorted-rising, rise_between-filter, rise_between-lower}
use Rattle.elem.specs.ElementValue.{ElementValue}
use Rattle.elem.specs.Order.{unstamped}
use Rattle.elem_store.specs.Updates.{element_of, ids_of, is_among}
use Rattle.elem_store.proofs.CallerLemmas.{Contains-cons, Contains-head, same_elements}
use Rattle.view.specs.Shown.{is_live}
use Rattle.effects.specs.declared.refusal.Refusal.TheVariants.{VersionFull}
use Rattle.effects.specs.Changed.{is_changed, is_full, change_of, changes_of, refusal_at}
use Rattle.effects.specs.inner.Concerning.{change_at, is_full_at, LeavesOthers}
use Rattle.effects.proofs.CreatedLaws.{some-or-none}
use Rattle.effects.proofs.DifferingLaws.{differs-not}
use Rattle.effects.proofs.NamedLaws.{own-id}

-- ---- ids of a set
pub contains-among : (set : BTreeSet (List ℕ)) (id : List ℕ)
    → contains (slice_cmp nat_cmp) set id ≡ is_among set.keys id
contains-among set id = ap (λ (h : List ℕ → Bool). list_any h set.keys) (λ i k. is_eq-slice_cmp id k i)

pub set-rises : (set : BTreeSet (List ℕ)) → IsStrictlySortedBy (slice_cmp nat_cmp) set.keys → are_rising set.keys ≡ true
set-rises set sorted = sorted-rising set.keys sorted

-- ---- the elements of an id
-- among those that pass by their ids
pub filtered-of : (p : List ℕ → Bool) (es : List ElementValue) (id : List ℕ)
    → element_of (filter (λ (e : ElementValue). p e.id) es) id ≡ (if p id then element_of es id else None)
filtered-of p [] id = elim (p id) as (λ (b : Bool). ◌≡◌ {A = Option ElementValue} None (if b then None else None))
    [ true ↦ refl | false ↦ refl ]
filtered-of p (e ∷ es) id = elim (cases_Bool (bytes_eq id e.id)) [
  | inl same ↦
      let own : p id ≡ p e.id = ap p (bytes_eq-true id e.id same) in
      elim (cases_Bool (p e.id)) [
        | inl passes ↦ rw (passes, same, own ∙ passes) refl
        | inr fails ↦ rw (fails, own ∙ fails) (filtered-of p es id ∙ rw (own ∙ fails) refl)
      ]
  | inr other ↦ elim (cases_Bool (p e.id)) [
    | inl passes ↦ rw (passes, other) (filtered-of p es id)
    | inr fails ↦ rw (fails, other) (filtered-of p es id)
  ]
]

module _ (stored : List ElementValue) where
  -- the stored elements of these ids
  abbrev pub chosen : List (List ℕ) → List ElementValue
  chosen ids = filter_map (element_of stored) ids

  chosen-rises : (low : Option (List ℕ)) (ids : List (List ℕ)) → rise_between low None ids ≡ true
      → rise_between low None (ids_of (chosen ids)) ≡ true
  chosen-rises low [] h = h
  chosen-rises low (id ∷ ids) h =
      let parts = and_parts (ends_rise low (Some id)) (rise_between (Some id) None ids) h in
      let later = chosen-rises (Some id) ids parts.1 in
      elim (some-or-none (element_of stored id)) [
        | inl none ↦ subst (λ (o : Option ElementValue). rise_between low None (ids_of (cons_option o (chosen ids)))
            ≡ true) (sym none) (rise_between-lower low id (ids_of (chosen ids)) parts.0 later)
        | inr some ↦ subst (λ (o : Option ElementValue). rise_between low None (ids_of (cons_option o (chosen ids)))
            ≡ true) (sym some.1)
            (subst (λ (k : List ℕ). (ends_rise low (Some k) && rise_between (Some k) None (ids_of (chosen ids))) ≡ true)
            (own-id stored id some.0 some.1)
            (and_from (ends_rise low (Some id)) (rise_between (Some id) None (ids_of (chosen ids))) parts.0 later))
      ]

  nothing-else : (b : Bool) (o : Option ElementValue) → o ≡ None → (if b then o else None) ≡ None
  nothing-else true o none = none
  nothing-else false o none = refl

  chosen-of : (ids : List (List ℕ)) (id : List ℕ) → element_of (chosen ids) id
      ≡ (if is_among ids id then element_of stored id else None)
  chosen-of [] id = refl
  chosen-of (k ∷ ids) id = elim (some-or-none (element_of stored k)) [
    | inl none ↦ ap (λ (o : Option ElementValue). element_of (cons_option o (chosen ids)) id) none
        ∙ (elim (cases_Bool (bytes_eq id k)) [
          | inl same ↦
              let absent : element_of stored id ≡ None = ap (element_of stored) (bytes_eq-true id k same) ∙ none in
              chosen-of ids id ∙ nothing-else (is_among ids id) (element_of stored id) absent
              ∙ sym (nothing-else (bytes_eq id k || is_among ids id) (element_of stored id) absent)
          | inr other ↦ rw other (chosen-of ids id)
        ])
    | inr some ↦ ap (λ (o : Option ElementValue). element_of (cons_option o (chosen ids)) id) some.1 ∙ (
        let own : bytes_eq id k ≡ bytes_eq id some.0.id = ap (bytes_eq id) (own-id stored k some.0 some.1) in
        elim (cases_Bool (bytes_eq id k)) [
          | inl same ↦ rw (sym own ∙ same, same) (sym (ap (element_of stored) (bytes_eq-true id k same) ∙ some.1))
          | inr other ↦ rw (sym own ∙ other, other) (chosen-of ids id)
        ])
  ]

  chosen-filtered : (ids : List (List ℕ)) → are_rising (ids_of stored) ≡ true → are_rising ids ≡ true
      → chosen ids ≡ filter (λ (e : ElementValue). is_among ids e.id) stored
  chosen-filtered ids ordered rising =
      same_elements (chosen ids) (filter (λ (e : ElementValue). is_among ids e.id) stored)
      (chosen-rises None ids rising)
      (rise_between-filter (λ (e : ElementValue). e.id) (λ (e : ElementValue). is_among ids e.id) None stored ordered)
      (λ id. chosen-of ids id ∙ sym (filtered-of (is_among ids) stored id))

  -- ---- along the ids
  mapped-chosen : (f : ElementValue → Option ElementValue) (ids : List (List ℕ))
      → filter_map (λ id. option_and_then f (element_of stored id)) ids ≡ filter_map f (chosen ids)
  mapped-chosen f [] = refl
  mapped-chosen f (id ∷ ids) = elim (some-or-none (element_of stored id)) [
    | inl none ↦ rw none (mapped-chosen f ids)
    | inr some ↦ rw some.1 (ap (cons_option (f some.0)) (mapped-chosen f ids))
  ]

  found-chosen : (makes : ElementValue → ElementValue) (ids : List (List ℕ))
      → option_map VersionFull (find (is_full_at stored makes) ids)
      ≡ option_map refusal_at (find (is_full makes) (chosen ids))
  found-chosen makes [] = refl
  found-chosen makes (id ∷ ids) = elim (some-or-none (element_of stored id)) [
    | inl none ↦ rw none (found-chosen makes ids)
    | inr some ↦ elim (cases_Bool (is_full makes some.0)) [
      | inl full ↦ rw (some.1, full) (ap (λ k. Some (VersionFull k)) (own-id stored id some.0 some.1))
      | inr not ↦ rw (some.1, not) (found-chosen makes ids)
    ]
  ]

-- ---- what makes no difference is passed over
passed-mapped : (f : ElementValue → Option ElementValue) (p : ElementValue → Bool) (es : List ElementValue)
    → ((e : ElementValue) → Contains es e → p e ≡ false → f e ≡ None) → filter_map f (filter p es) ≡ filter_map f es
passed-mapped f p [] none = refl
passed-mapped f p (e ∷ es) none =
    let later = passed-mapped f p es (λ d c. none d (Contains-cons e es d c)) in
    elim (cases_Bool (p e)) [
      | inl passes ↦ rw passes (ap (cons_option (f e)) later)
      | inr fails ↦ rw (fails, none e (Contains-head e es) fails) later
    ]

passed-found : (q p : ElementValue → Bool) (es : List ElementValue)
    → ((e : ElementValue) → Contains es e → p e ≡ false → q e ≡ false) → find q (filter p es) ≡ find q es
passed-found q p [] none = refl
passed-found q p (e ∷ es) none =
    let later = passed-found q p es (λ d c. none d (Contains-cons e es d c)) in
    elim (cases_Bool (p e)) [
      | inl passes ↦ elim (cases_Bool (q e)) [
        | inl t ↦ rw (passes, t) refl
        | inr f ↦ rw (passes, f) later
      ]
      | inr fails ↦ rw (fails, none e (Contains-head e es) fails) later
    ]

-- ---- an effect that leaves the others as they are
module _ (makes : ElementValue → ElementValue) (time nonce : ℕ) (stored : List ElementValue) (ids : BTreeSet (List ℕ))
    (ordered : are_rising (ids_of stored) ≡ true) (sorted : IsStrictlySortedBy (slice_cmp nat_cmp) ids.keys)
    (others : LeavesOthers makes stored ids) where
  unchanged : (e : ElementValue) → Contains stored e → is_among ids.keys e.id ≡ false → is_changed makes e ≡ false
  unchanged e c out = elim (cases_Bool (is_live e)) [
    | inl live ↦ rw live (differs-not e (makes e)
        (sym (ap unstamped (others e c live (contains-among ids e.id ∙ out)))))
    | inr dead ↦ rw dead refl
  ]

  pub changes-walked : filter_map (change_at stored makes time nonce) ids.keys ≡ changes_of makes time nonce stored
  changes-walked =
      mapped-chosen stored (change_of makes time nonce) ids.keys
      ∙ ap (filter_map (change_of makes time nonce)) (chosen-filtered stored ids.keys ordered (set-rises ids sorted))
      ∙ passed-mapped (change_of makes time nonce) (λ (e : ElementValue). is_among ids.keys e.id) stored
      (λ e c out. rw (unchanged e c out) refl)

  pub full-walked : option_map VersionFull (find (is_full_at stored makes) ids.keys)
      ≡ option_map refusal_at (find (is_full makes) stored)
  full-walked =
      found-chosen stored makes ids.keys
      ∙ ap (λ es. option_map refusal_at (find (is_full makes) es))
      (chosen-filtered stored ids.keys ordered (set-rises ids sorted))
      ∙ ap (option_map refusal_at) (passed-found (is_full makes) (λ (e : ElementValue). is_among ids.keys e.id) stored
      (λ e c out. rw (unchanged e c out) refl))
