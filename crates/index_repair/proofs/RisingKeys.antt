-- Whether the keys of elements rise, as they are gone over.
use Rattle.std.proofs.Common.{◌≡◌, ℕ, ◌+◌, ◌<◌, ◌≤◌, true, false, List, [], ◌∷◌, length, map, get_or, drop, Option, Some, None, refl, sym, ap, ap₂, ◌∙◌, subst}
use Rattle.std.specs.List.{list_all}
use Rattle.std.proofs.lemmas.Bool.{and_from, and_parts, both_ways}
use Rattle.std.proofs.lemmas.List.{drop_all, drop_more}
use Rattle.frac_keys.specs.Keys.{is_key}
use Rattle.frac_keys.specs.Rising.{ends_rise, is_key_or_none, rise_between}
use Rattle.frac_keys.proofs.CallerLemmas.{ends_rise-none}
use Rattle.elem.specs.ElementValue.{ElementValue}
use Rattle.index_repair.specs.Keyed.{index_of, HaveKeysOrNone, HaveRisingKeys}

-- The keys of the elements rise exactly if those of the rest do, above the last key before it.
pub record HaveRisenTo (elements : List ElementValue) (low : Option (List ℕ)) (rest : List ElementValue) : Type 0 where
  pub rising : (keys : List (List ℕ)) → map index_of rest ≡ map Some keys → rise_between low None keys ≡ true
      → HaveRisingKeys elements
  pub back : HaveRisingKeys elements → (keys : List (List ℕ)) × (map index_of rest ≡ map Some keys)
      × (rise_between low None keys ≡ true)
  pub keys : HaveKeysOrNone rest → HaveKeysOrNone elements

pub risen-none : (es : List ElementValue) → HaveRisenTo es None es
risen-none es = record {
  rising = λ keys each rise. record { keys = keys; each = each; rise = rise };
  back = λ h. (h.keys, h.each, h.rise);
  keys = λ h. h;
}

-- the key after those, where it is greater
next_key : (e : ElementValue) (key : List ℕ) (low : Option (List ℕ)) (rest : List ElementValue) (keys : List (List ℕ))
    → e.index ≡ Some key → map index_of (e ∷ rest) ≡ map Some keys → rise_between low None keys ≡ true
    → (ends_rise low (Some key) ≡ true) × ((others : List (List ℕ)) × (map index_of rest ≡ map Some others)
    × (rise_between (Some key) None others ≡ true))
next_key e key low rest [] is each rise = cc
next_key e key low rest (other ∷ others) is each rise =
    let same : other ≡ key = cc in
    let parts = and_parts (ends_rise low (Some other)) (rise_between (Some other) None others) rise in (
      subst (λ k. ends_rise low (Some k) ≡ true) same parts.0,
      (others, cc, subst (λ k. rise_between (Some k) None others ≡ true) same parts.1),
    )

no_key : (e : ElementValue) (rest : List ElementValue) (keys : List (List ℕ)) → e.index ≡ None
    → map index_of (e ∷ rest) ≡ map Some keys → ⊥
no_key e rest [] is each = cc
no_key e rest (key ∷ keys) is each = cc

module _ (es : List ElementValue) (low : Option (List ℕ)) (i : ℕ) (e : ElementValue) (within : i < length es)
    (at' : e ≡ get_or es i e) (so_far : HaveRisenTo es low (drop i es)) where
  here : HaveRisenTo es low (e ∷ drop (i + 1) es)
  here = subst (HaveRisenTo es low) (drop_more es i e within ∙ ap (λ x. x ∷ drop (i + 1) es) (sym at')) so_far

  pub risen-more : (key : List ℕ) → e.index ≡ Some key → ends_rise low (Some key) ≡ true → is_key key ≡ true
      → HaveRisenTo es (Some key) (drop (i + 1) es)
  risen-more key is above are = record {
    rising = λ keys each rise. here.rising (key ∷ keys) (ap₂ (λ x xs. x ∷ xs) is each)
        (and_from (ends_rise low (Some key)) (rise_between (Some key) None keys) above rise);
    back = λ h. let (keys, each, rise) = here.back h in (next_key e key low (drop (i + 1) es) keys is each rise).1;
    keys = λ h. here.keys (and_from (is_key_or_none e.index) (list_all is_key_or_none (map index_of (drop (i + 1) es)))
        (ap is_key_or_none is ∙ are) h);
  }

  pub risen-not : (key : List ℕ) → e.index ≡ Some key → ends_rise low (Some key) ≡ false → HaveRisingKeys es → ⊥
  risen-not key is below h =
      let (keys, each, rise) = here.back h in
      both_ways (ends_rise low (Some key)) below (next_key e key low (drop (i + 1) es) keys is each rise).0

  pub risen-absent : e.index ≡ None → HaveRisingKeys es → ⊥
  risen-absent is h = let (keys, each, rise) = here.back h in no_key e (drop (i + 1) es) keys is each

pub risen-all : (es : List ElementValue) (low : Option (List ℕ)) (i : ℕ) → length es ≤ i
    → HaveRisenTo es low (drop i es) → HaveRisingKeys es
risen-all es low i end' so_far =
    (subst (HaveRisenTo es low) (drop_all i es end') so_far).rising [] refl (ends_rise-none low)

pub risen-keys : (es : List ElementValue) (low : Option (List ℕ)) (i : ℕ) → length es ≤ i
    → HaveRisenTo es low (drop i es) → HaveKeysOrNone es
risen-keys es low i end' so_far = (subst (HaveRisenTo es low) (drop_all i es end') so_far).keys refl
