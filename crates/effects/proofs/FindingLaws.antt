-- Shown elements by their ids, and live ones.
use Rattle.std.proofs.Common.{◌≡◌, ℕ, zero, suc, ◌+◌, Bool, true, false, ◌&&◌, ◌||◌, List, [], ◌∷◌, Option, Some, None, is_some, Contains, IfNone, IfSome, IsSomeAnd, find, slice_get, bytes_eq, nat_cmp, inl, inr, refl, sym, ap, ◌∙◌, subst, arith}
use Rattle.std.specs.BTreeSet.{contains}
use Rattle.std.specs.Cmp.Lexicographic.{nat_list_eq_equiv, slice_cmp}
use Rattle.std.specs.List.{AllByRecursion, IsDistinct, list_any, position, position_from}
use Rattle.std.specs.Option.{option_map, option_map_or}
use Rattle.std.proofs.lemmas.Bool.{cases_Bool, false≢true}
use Rattle.std.proofs.lemmas.Iterator.Adapters.{position_from-zero}
use Rattle.std.proofs.lemmas.List.Sorted.{Contains-permutation}
use Rattle.std.proofs.lemmas.Map.Keys.{IsDistinct-IsPermutation}
use Rattle.std.proofs.lemmas.Option.{none-some, same_Some}
use Rattle.json_text.proofs.CallerLemmas.{bytes_eq-true, bytes_eq-same}
use Rattle.frac_keys.specs.Rising.{are_rising}
use Rattle.elem.specs.ElementValue.{ElementValue}
use Rattle.elem.specs.Order.{has_id, HaveDistinctIds}
use Rattle.elem_store.specs.Places.{IsAt}
use Rattle.elem_store.specs.Updates.{element_of, ids_of, is_among}
use Rattle.elem_store.proofs.CallerLemmas.{Contains-filter, find-Some, is_some-find, member}
use Rattle.index_repair.specs.Keyed.{index_of}
use Rattle.links.specs.Arrows.{names_target}
use Rattle.links.specs.Names.{is_target}
use Rattle.links.proofs.CallerLemmas.{list_any-from, list_any-map}
use Rattle.view.specs.Shown.{is_live, live_elements}
use Rattle.view.proofs.CallerLemmas.{HaveDistinctIds-rising, live_elements-rise}
use Rattle.effects.specs.Lookups.{IsLookup}
use Rattle.effects.specs.Refusals.{is_live_id}
use Rattle.effects.specs.declared.lookup.Lookup.{Lookup}
use Rattle.effects.proofs.CreatedLaws.{some-or-none}
use Rattle.effects.proofs.NamedLaws.{among-Contains, at-some, live-found}
use Rattle.effects.proofs.PlacingLaws.{apart-at}

-- ---- places
-- the element at a place is the one of its id
pub element-at-place : (es : List ElementValue) (i : ℕ) (e : ElementValue) → HaveDistinctIds es
    → slice_get es i ≡ Some e → element_of es e.id ≡ Some e
unfolding IsDistinct
element-at-place [] i e distinct at' = absurd (none-some e at')
element-at-place (x ∷ es) zero e distinct at' =
    let same = same_Some x e at' in
    rw (ap (λ (d : ElementValue). bytes_eq e.id d.id) same ∙ bytes_eq-same e.id) (ap Some same)
element-at-place (x ∷ es) (suc i) e distinct at' =
    rw (nat_list_eq_equiv.symm e.id x.id ∙ apart-at x.id es i e distinct.0 at') (element-at-place es i e distinct.1 at')

pub at-place : (es : List ElementValue) (i : ℕ) (id : List ℕ) → HaveDistinctIds es → IsAt es id i
    → slice_get es i ≡ element_of es id
at-place es i id distinct at' = by (slice_get es i) refl at'
  where
    by : (o : Option ElementValue) → slice_get es i ≡ o → IsSomeAnd o (λ (e : ElementValue). e.id ≡ id)
        → slice_get es i ≡ element_of es id
    by None is h = absurd h
    by (Some e) is own = is ∙ sym (element-at-place es i e distinct is) ∙ ap (element_of es) own

-- the element at a place that was found
pub some-at : (es : List ElementValue) (id : List ℕ) (i : ℕ) → IsAt es id i → (e : ElementValue)
    × (slice_get es i ≡ Some e) × (e.id ≡ id)
some-at es id i at' = by (slice_get es i) refl at'
  where
    by : (o : Option ElementValue) → slice_get es i ≡ o → IsSomeAnd o (λ (e : ElementValue). e.id ≡ id)
        → (e : ElementValue) × (slice_get es i ≡ Some e) × (e.id ≡ id)
    by None is h = absurd h
    by (Some e) is own = (e, is, own)

-- where no place was found there is no element of the id
pub none-left : (es : List ElementValue) (id : List ℕ) (o : Option ℕ) → ((i : ℕ) → o ≡ Some i → ⊥)
    → IfNone o (element_of es id ≡ None) → element_of es id ≡ None
none-left es id None none absent = absent
none-left es id (Some i) none absent = absurd (none i refl)

-- the first place at which a test passes, if there is one
module _ (p : ElementValue → Bool) where
  none-from : (k : ℕ) (es : List ElementValue) → position_from p k es ≡ None → find p es ≡ None
  none-from k [] none = refl
  none-from k (e ∷ es) none = elim (cases_Bool (p e)) [
    | inl t ↦ absurd (none-some k (sym (rw t at none)))
    | inr f ↦ rw f (none-from (k + 1) es (rw f at none))
  ]

  some-from : (k : ℕ) (es : List ElementValue) (i : ℕ) → position_from p k es ≡ Some i → (j : ℕ) × (i ≡ k + j)
      × (e : ElementValue) × (slice_get es j ≡ Some e) × (p e ≡ true)
  some-from k [] i is = absurd (none-some i is)
  some-from k (e ∷ es) i is = elim (cases_Bool (p e)) [
    | inl t ↦ (zero, omega (arith, same_Some k i (rw t at is)), e, refl, t)
    | inr f ↦ let rest =
        some-from (k + 1) es i (rw f at is) in (suc rest.0, omega (arith, rest.1), rest.2, rest.3, rest.4)
  ]

pub first-found-at : (es : List ElementValue) (id : List ℕ) (o : Option ℕ) → o ≡ position (has_id id) es
    → IfSome o (IsAt es id)
first-found-at es id None is = tt
first-found-at es id (Some i) is =
    let there = some-from (has_id id) 0 es i (sym (is ∙ position_from-zero (has_id id) es)) in
    let place : i ≡ there.0 = omega (arith, there.1) in
    at-some (λ (e : ElementValue). e.id ≡ id) (slice_get es i) there.2 (ap (slice_get es) place
    ∙ there.3) (sym (bytes_eq-true id there.2.id there.4))

pub first-absent : (es : List ElementValue) (id : List ℕ) (o : Option ℕ) → o ≡ position (has_id id) es
    → IfNone o (element_of es id ≡ None)
first-absent es id None is = none-from (has_id id) 0 es (sym (is ∙ position_from-zero (has_id id) es))
first-absent es id (Some i) is = tt

-- ---- bindable targets
pub target-found : (es : List ElementValue) (id : List ℕ) → HaveDistinctIds es
    → option_map_or is_target (element_of es id) false ≡ names_target es (Some id)
unfolding IsDistinct
target-found [] id distinct = refl
target-found (e ∷ es) id distinct = elim (cases_Bool (bytes_eq id e.id)) [
  | inl same ↦ rw same (or-nothing (is_target e) (list_any (λ target. has_id id target && is_target target) es)
      (no-other es (subst (λ k. AllByRecursion (λ other. bytes_eq k other ≡ false) (ids_of es))
      (sym (bytes_eq-true id e.id same)) distinct.0)))
  | inr other ↦ rw other (target-found es id distinct.1)
]
  where
    or-nothing : (a b : Bool) → b ≡ false → a ≡ (a || b)
    or-nothing true b h = refl
    or-nothing false b h = sym h

    no-other : (es : List ElementValue) → AllByRecursion (λ other. bytes_eq id other ≡ false) (ids_of es)
        → list_any (λ target. has_id id target && is_target target) es ≡ false
    no-other [] apart = refl
    no-other (e ∷ es) apart = rw apart.0 (no-other es apart.1)

-- ---- what is looked up
module _ (lookup : Lookup) (is : IsLookup lookup) where
  abbrev stored : List ElementValue
  stored = lookup.store.now.elements

  abbrev seen : List ElementValue
  seen = lookup.shown.now

  abbrev live : List ElementValue
  live = live_elements stored

  pub live-rise : are_rising (ids_of live) ≡ true
  live-rise = live_elements-rise stored is.ordered

  -- what is shown has distinct ids
  pub seen-distinct : HaveDistinctIds seen
  seen-distinct = IsDistinct-IsPermutation bytes_eq nat_list_eq_equiv.symm (ids_of live) (ids_of seen) is.ids
      (HaveDistinctIds-rising live live-rise)

  -- a live element is the one of its id
  pub live-own : (e : ElementValue) → Contains stored e → is_live e ≡ true → element_of live e.id ≡ Some e
  live-own e c alive = member None None live e live-rise (Contains-filter is_live stored e c alive)

  -- one that can't be unsettled is shown as it is stored
  pub seen-as-stored : (e : ElementValue) → Contains stored e → is_live e ≡ true
      → contains (slice_cmp nat_cmp) lookup.unsettled.now e.id ≡ false → element_of seen e.id ≡ Some e
  seen-as-stored e c alive out = is.others e.id out ∙ live-own e c alive

  -- one that can't be rekeyed is shown with its key
  pub seen-keyed : (e : ElementValue) → Contains stored e → is_live e ≡ true
      → contains (slice_cmp nat_cmp) lookup.rekeyed.now e.id ≡ false
      → option_map index_of (element_of seen e.id) ≡ Some e.index
  seen-keyed e c alive out = is.keyed e.id out ∙ ap (option_map index_of) (live-own e c alive)

  some-among : (es : List ElementValue) (id : List ℕ) → is_among (ids_of es) id ≡ is_some (element_of es id)
  some-among es id = list_any-map (λ (e : ElementValue). e.id) (bytes_eq id) es ∙ sym (is_some-find (has_id id) es)

  -- what is live is shown
  pub live-seen : (id : List ℕ) → is_live_id stored id ≡ true → (e : ElementValue) × (element_of seen id ≡ Some e)
  live-seen id alive =
      let old = live-found stored id alive in
      let at' = find-Some (has_id id) stored old.0 old.1 in
      let own : element_of live id ≡ Some old.0 =
      ap (element_of live) (bytes_eq-true id old.0.id at'.1) ∙ live-own old.0 at'.0 old.2 in
      let among = among-Contains (ids_of live) id (some-among live id ∙ ap is_some own) in
      let there = sym (some-among seen id)
      ∙ list_any-from (bytes_eq id) (ids_of seen) id (Contains-permutation (ids_of live) (ids_of seen) id is.ids
      among) (bytes_eq-same id) in
      elim (some-or-none (element_of seen id)) [
        | inl none ↦ absurd (false≢true (sym (ap is_some none) ∙ there))
        | inr some ↦ (some.0, some.1)
      ]
