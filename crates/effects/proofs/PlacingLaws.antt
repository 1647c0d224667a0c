-- Keys in the order of a scene: those beside a spot rise, and a map has the keys of elements by their ids.
use Rattle.std.proofs.Common.{◌≡◌, ℕ, zero, suc, ◌+◌, ◌<◌, Bool, true, false, cond, not, ◌&&◌, List, [], ◌∷◌, ◌++◌, append-nil, drop, get_or, length, reverse, Option, Some, None, is_some, map, slice_get, bytes_eq, nat_cmp, inl, inr, refl, sym, ap, ◌∙◌, subst, Bor, arith}
use Rattle.std.specs.BTreeMap.{BTreeMap, get, is_at, Updates}
use Rattle.std.specs.BTreeSet.{BTreeSet, contains}
use Rattle.std.specs.List.{AllByRecursion, IsDistinct, find, list_any}
use Rattle.std.specs.Map.{lookup}
use Rattle.std.specs.Cmp.Lexicographic.{slice_cmp, nat_list_eq_equiv, texts_ties}
use Rattle.std.specs.Option.{option_and_then, option_or, option_map, option_copied}
use Rattle.std.proofs.lemmas.Bool.{and_right, cases_Bool, false≢true, and_parts}
use Rattle.std.proofs.lemmas.Grind.{reverse_onto}
use Rattle.std.proofs.lemmas.List.{reverse-reverse}
use Rattle.std.proofs.lemmas.List.Elements.{filter-append}
use Rattle.std.proofs.lemmas.Option.{none-some, same_Some}
use Rattle.json_text.proofs.CallerLemmas.{bytes_eq-same, bytes_eq-true}
use Rattle.frac_keys.specs.Rising.{ends_rise, rise_between}
use Rattle.frac_keys.proofs.CallerLemmas.{ends_rise-none, ends_rise-trans}
use Rattle.elem.specs.ElementValue.{ElementValue}
use Rattle.elem.specs.Order.{has_id, HaveDistinctIds}
use Rattle.elem_store.specs.Updates.{element_of, ids_of}
use Rattle.index_repair.specs.Keyed.{index_of, HaveRisingKeys}
use Rattle.links.specs.Names.{is_id}
use Rattle.effects.specs.Placing.{is_of, others, first_key, gap_above, last_key, last_key_or}
use Rattle.effects.specs.inner.Prepared.{HasKeys, elements_among}
use Rattle.effects.proofs.FirstLaws.{first-append}

-- each element has a key, and that is greater than the one before
abbrev pub Rises : Option (List ℕ) → List ElementValue → Type 0
Rises low [] = Unit {0}
Rises low (e ∷ elements) =
    (key : List ℕ) × (e.index ≡ Some key) × (ends_rise low (Some key) ≡ true) × Rises (Some key) elements

pub Rises-from : (low : Option (List ℕ)) (elements : List ElementValue) (keys : List (List ℕ))
    → map index_of elements ≡ map Some keys → rise_between low None keys ≡ true → Rises low elements
Rises-from low [] keys same rise = tt
Rises-from low (e ∷ elements) [] same rise = absurd (no-cons (sym same))
  where
    no-cons : {X : Type 0} {x : X} {xs : List X} → [] ≡ x ∷ xs → ⊥
    no-cons {X} e = subst (λ l. elim l as (λ _. Type 0) [ [] ↦ Unit {0} | x ∷ xs ↦ ⊥ ]) e tt
Rises-from low (e ∷ elements) (key ∷ keys) same rise =
    let parts = and_parts (ends_rise low (Some key)) (rise_between (Some key) None keys) rise in
    (key, ap (head-or (index_of e)) same, parts.0, Rises-from (Some key) elements keys (ap tail same) parts.1)
  where
    head-or : Option (List ℕ) → List (Option (List ℕ)) → Option (List ℕ)
    head-or d [] = d
    head-or d (x ∷ xs) = x

    tail : List (Option (List ℕ)) → List (Option (List ℕ))
    tail [] = []
    tail (x ∷ xs) = xs

pub Rises-shown : (elements : List ElementValue) → HaveRisingKeys elements → Rises None elements
Rises-shown elements h = Rises-from None elements h.keys h.each h.rise

pub Rises-lower : (low : Option (List ℕ)) (key : List ℕ) (elements : List ElementValue)
    → ends_rise low (Some key) ≡ true → Rises (Some key) elements → Rises low elements
Rises-lower low key [] less h = tt
Rises-lower low key (e ∷ elements) less h = (h.0, h.1, ends_rise-trans low key (Some h.0) less h.2, h.3)

pub first_key-rises : (except : Option (List ℕ)) (low : Option (List ℕ)) (elements : List ElementValue)
    → Rises low elements → ends_rise low (first_key (others except elements)) ≡ true
first_key-rises except low [] h = ends_rise-none low
first_key-rises except low (e ∷ elements) h = elim (cases_Bool (is_of except e)) [
  | inl same ↦ rw same (ends_rise-trans low h.0 (first_key (others except elements)) h.2
      (first_key-rises except (Some h.0) elements h.3))
  | inr other ↦ rw (other, h.1) h.2
]

pub gap_above-next : (below : List ℕ) (except : Option (List ℕ)) (e : ElementValue) (elements : List ElementValue)
    → (not (is_of except e) && bytes_eq below e.id) ≡ false → gap_above below (others except (e ∷ elements))
    ≡ gap_above below (others except elements)
gap_above-next below except e elements h = elim (cases_Bool (is_of except e)) [
  | inl same ↦ rw same refl
  | inr other ↦ rw (other, rw other at h) refl
]

-- ---- an element at a place and the ones above it
-- another id is that of no element of the list
pub apart-at : (k : List ℕ) (es : List ElementValue) (i : ℕ) (e : ElementValue)
    → AllByRecursion (λ id. bytes_eq k id ≡ false) (ids_of es) → slice_get es i ≡ Some e → bytes_eq k e.id ≡ false
apart-at k [] i e apart at' = absurd (none-some e at')
apart-at k (x ∷ es) zero e apart at' = ap (λ (d : ElementValue). bytes_eq k d.id) (sym (same_Some x e at')) ∙ apart.0
apart-at k (x ∷ es) (suc i) e apart at' = apart-at k es i e apart.1 at'

one-behind : (i : ℕ) → suc i + 1 ≡ suc (i + 1)
one-behind i = omega arith

-- no element of the id is left
gap_above-absent : (below : List ℕ) (except : Option (List ℕ)) (elements : List ElementValue)
    → ((e : ElementValue) → (not (is_of except e) && bytes_eq below e.id) ≡ false)
    → gap_above below (others except elements) ≡ record { low = None; high = None }
gap_above-absent below except [] none = refl
gap_above-absent below except (e ∷ elements) none =
    gap_above-next below except e elements (none e) ∙ gap_above-absent below except elements none

pub gap_above-excepted : (below : List ℕ) (except : Option (List ℕ)) (elements : List ElementValue)
    → is_id below except ≡ true → gap_above below (others except elements) ≡ record { low = None; high = None }
gap_above-excepted below None elements h = absurd (false≢true h)
gap_above-excepted below (Some id) elements h =
    gap_above-absent below (Some id) elements
    (λ e. subst (λ (k : List ℕ). (not (bytes_eq k e.id) && bytes_eq below e.id) ≡ false) (bytes_eq-true below id h)
    (apart (bytes_eq below e.id)))
  where
    apart : (b : Bool) → (not b && b) ≡ false
    apart true = refl
    apart false = refl

pub gap_above-missing : (below : List ℕ) (except : Option (List ℕ)) (elements : List ElementValue)
    → element_of elements below ≡ None → gap_above below (others except elements) ≡ record { low = None; high = None }
gap_above-missing below except [] none = refl
gap_above-missing below except (e ∷ elements) none = elim (cases_Bool (bytes_eq below e.id)) [
  | inl same ↦ absurd (none-some e (sym (rw same at none)))
  | inr other ↦ gap_above-next below except e elements (rw other (and_right (not (is_of except e)) false refl))
      ∙ gap_above-missing below except elements (rw other at none)
]

other-of : (below : List ℕ) (except : Option (List ℕ)) (e : ElementValue) → e.id ≡ below → is_id below except ≡ false
    → is_of except e ≡ false
other-of below None e own h = refl
other-of below (Some id) e own h = ap (bytes_eq id) own ∙ nat_list_eq_equiv.symm id below ∙ h

-- the element of the id stands at the place
pub gap_above-at : (below : List ℕ) (except : Option (List ℕ)) (elements : List ElementValue) (i : ℕ) (e : ElementValue)
    → HaveDistinctIds elements → slice_get elements i ≡ Some e → e.id ≡ below → is_id below except ≡ false
    → gap_above below (others except elements) ≡ record {
      low = e.index;
      high =
          first_key (others except (drop (i + 1) elements));
    }
unfolding IsDistinct
gap_above-at below except [] i e distinct at' own h = absurd (none-some e at')
gap_above-at below except (x ∷ elements) zero e distinct at' own h =
    let same = same_Some x e at' in
    let mine : bytes_eq below x.id ≡ true =
    ap (λ (d : ElementValue). bytes_eq below d.id) same ∙ ap (bytes_eq below) own ∙ bytes_eq-same below in
    rw (
      other-of below except x (ap (λ (d : ElementValue). d.id) same ∙ own) h,
      mine,
    ) (ap (λ (d : ElementValue). record { low = d.index; high = first_key (others except elements) }) same)
gap_above-at below except (x ∷ elements) (suc i) e distinct at' own h =
    let apart : bytes_eq below x.id ≡ false =
    nat_list_eq_equiv.symm below x.id ∙ ap (bytes_eq x.id) (sym own) ∙ apart-at x.id elements i e distinct.0 at' in
    gap_above-next below except x elements (rw apart (and_right (not (is_of except x)) false refl))
    ∙ gap_above-at below except elements i e distinct.1 at' own h
    ∙ sym (ap (λ k. record { low = e.index; high = first_key (others except (drop k (x ∷ elements))) }) (one-behind i))

-- the keys above an element are greater than its own
pub Rises-at : (low : Option (List ℕ)) (elements : List ElementValue) (i : ℕ) (e : ElementValue) → Rises low elements
    → i < length elements → e ≡ get_or elements i e → (key : List ℕ) × (e.index ≡ Some key)
    × Rises (Some key) (drop (i + 1) elements)
Rises-at low [] i e h within is = absurd (omega (arith, within))
Rises-at low (x ∷ elements) zero e h within is = (h.0, ap (λ (d : ElementValue). d.index) is ∙ h.1, h.3)
Rises-at low (x ∷ elements) (suc i) e h within is =
    let above = Rises-at (Some h.0) elements i e h.3 (omega (arith, within)) is in
    (above.0, above.1, subst (λ k. Rises (Some above.0) (drop k (x ∷ elements))) (sym (one-behind i)) above.2)

-- ---- the last element
last-behind : (key : Option (List ℕ)) (elements more : List ElementValue)
    → last_key_or key (elements ++ more) ≡ last_key_or (last_key_or key elements) more
last-behind key [] more = refl
last-behind key (e ∷ elements) more = last-behind e.index elements more

pub last_key-own : (except : Option (List ℕ)) (elements : List ElementValue) (e : ElementValue) → is_of except e ≡ false
    → last_key (others except (elements ++ e ∷ [])) ≡ e.index
last_key-own except elements e other =
    ap last_key (filter-append (λ (d : ElementValue). not (is_of except d)) elements (e ∷ []))
    ∙ last-behind None (others except elements) (others except (e ∷ []))
    ∙ rw other refl

pub last_key-passed : (except : Option (List ℕ)) (elements : List ElementValue) (e : ElementValue)
    → is_of except e ≡ true → last_key (others except (elements ++ e ∷ [])) ≡ last_key (others except elements)
last_key-passed except elements e same =
    ap last_key (filter-append (λ (d : ElementValue). not (is_of except d)) elements (e ∷ []))
    ∙ last-behind None (others except elements) (others except (e ∷ []))
    ∙ rw same refl

-- the key of the first element that isn't passed over, and of the last
pub first_key-found : (except : Option (List ℕ)) (elements : List ElementValue)
    → first_key (others except elements)
    ≡ option_and_then (λ (e : ElementValue). e.index) (find (λ (e : ElementValue). not (is_of except e)) elements)
first_key-found except [] = refl
first_key-found except (e ∷ elements) = elim (cases_Bool (is_of except e)) [
  | inl same ↦ rw same (first_key-found except elements)
  | inr other ↦ rw other refl
]

last_key-behind : (except : Option (List ℕ)) (elements : List ElementValue)
    → last_key (others except (reverse elements))
    ≡ option_and_then (λ (e : ElementValue). e.index) (find (λ (e : ElementValue). not (is_of except e)) elements)
last_key-behind except [] = refl
last_key-behind except (e ∷ elements) =
    ap (λ es. last_key (others except es)) (reverse_onto elements e [])
    ∙ elim (cases_Bool (is_of except e)) [
      | inl same ↦ last_key-passed except (reverse elements) e same
          ∙ last_key-behind except elements
          ∙ rw same refl
      | inr other ↦ last_key-own except (reverse elements) e other ∙ rw other refl
    ]

pub last_key-found : (except : Option (List ℕ)) (elements : List ElementValue)
    → last_key (others except elements)
    ≡ option_and_then (λ (e : ElementValue). e.index) (find (λ (e : ElementValue). not (is_of except e))
    (reverse elements))
last_key-found except elements =
    ap (λ es. last_key (others except es)) (sym (reverse-reverse elements))
    ∙ last_key-behind except (reverse elements)

-- ---- a map of keys
none-or : {X : Type 0} (o : Option X) → option_or o None ≡ o
none-or None = refl
none-or (Some x) = refl

more : (elements : List ElementValue) (e : ElementValue) (id : List ℕ)
    → option_map index_of (element_of (elements ++ e ∷ []) id)
    ≡ option_or (option_map index_of (element_of elements id)) (option_map index_of (element_of (e ∷ []) id))
more elements e id = first-append (has_id id) index_of elements (e ∷ [])

pub copied : {X : Type 0} (o : Option (Bor X)) → is_some (option_copied o) ≡ is_some o
copied None = refl
copied (Some x) = refl

pub HasKeys-known : (keys : BTreeMap (List ℕ) (Option (List ℕ))) (elements : List ElementValue) (e : ElementValue)
    → HasKeys keys elements → is_some (get (slice_cmp nat_cmp) keys e.id) ≡ true → HasKeys keys (elements ++ e ∷ [])
HasKeys-known keys elements e has known id = elim (cases_Bool (bytes_eq id e.id)) [
  | inl same ↦ has id ∙ sym (more elements e id
      ∙ kept (option_map index_of (element_of elements id)) _ (sym (ap is_some (has id))
      ∙ ap (λ i. is_some (get (slice_cmp nat_cmp) keys i)) (bytes_eq-true id e.id same) ∙ known))
  | inr other ↦ has id ∙ sym (more elements e id ∙ rw other (none-or (option_map index_of (element_of elements id))))
]
  where
    kept : {X : Type 0} (o p : Option X) → is_some o ≡ true → option_or o p ≡ o
    kept None p h = absurd (false≢true h)
    kept (Some x) p h = refl

pub HasKeys-new : (keys new : BTreeMap (List ℕ) (Option (List ℕ))) (elements : List ElementValue) (e : ElementValue)
    → HasKeys keys elements → is_some (get (slice_cmp nat_cmp) keys e.id) ≡ false
    → Updates (slice_cmp nat_cmp) keys new e.id (Some e.index) → HasKeys new (elements ++ e ∷ [])
HasKeys-new keys new elements e has unknown updates id =
    updates.0 id
    ∙ ap (λ b. cond b (Some e.index) (get (slice_cmp nat_cmp) keys id)) (sym (texts_ties e.id id)
    ∙ nat_list_eq_equiv.symm e.id id)
    ∙ elim (cases_Bool (bytes_eq id e.id)) [
      | inl same ↦
          rw (
            same,
            more elements e id,
            none-of (option_map index_of (element_of elements id))
                (sym (ap is_some (has id)) ∙ ap (λ i. is_some (get (slice_cmp nat_cmp) keys i))
                (bytes_eq-true id e.id same) ∙ unknown),
            same,
          ) refl
      | inr other ↦ rw (other, more elements e id, other) (has id
          ∙ sym (none-or (option_map index_of (element_of elements id))))
    ]
  where
    none-of : {X : Type 0} (o : Option X) → is_some o ≡ false → o ≡ None
    none-of None h = refl
    none-of (Some x) h = absurd (false≢true (sym h))

-- the keys of those that are of these ids, where one more is or isn't
pub keys-among : (keys : BTreeMap (List ℕ) (Option (List ℕ))) (ids : BTreeSet (List ℕ)) (elements : List ElementValue)
    (e : ElementValue) → contains (slice_cmp nat_cmp) ids e.id ≡ true
    → HasKeys keys (elements_among ids elements ++ e ∷ []) → HasKeys keys (elements_among ids (elements ++ e ∷ []))
keys-among keys ids elements e among has =
    subst (HasKeys keys) (sym (filter-append (λ (d : ElementValue). contains (slice_cmp nat_cmp) ids d.id) elements
    (e ∷ []) ∙ rw among refl)) has

pub keys-passed : (keys : BTreeMap (List ℕ) (Option (List ℕ))) (ids : BTreeSet (List ℕ)) (elements : List ElementValue)
    (e : ElementValue) → contains (slice_cmp nat_cmp) ids e.id ≡ false → HasKeys keys (elements_among ids elements)
    → HasKeys keys (elements_among ids (elements ++ e ∷ []))
keys-passed keys ids elements e other has =
    subst (HasKeys keys) (sym (filter-append (λ (d : ElementValue). contains (slice_cmp nat_cmp) ids d.id) elements
    (e ∷ []) ∙ rw other (append-nil (elements_among ids elements)))) has

-- where there are no ids, nothing is among them
pub keys-none : (keys : BTreeMap (List ℕ) (Option (List ℕ))) (ids : BTreeSet (List ℕ)) (elements : List ElementValue)
    → keys.entries ≡ [] → ids.keys ≡ [] → HasKeys keys (elements_among ids elements)
keys-none keys ids elements empty none id =
    ap (λ es. lookup (is_at (slice_cmp nat_cmp id)) es) empty
    ∙ sym (ap (λ es. option_map index_of (element_of es id)) (nothing elements))
  where
    nothing : (es : List ElementValue) → elements_among ids es ≡ []
    nothing [] = refl
    nothing (e ∷ es) = rw (ap (λ ks. list_any (λ k. is_at (slice_cmp nat_cmp e.id) k) ks) none) (nothing es)
