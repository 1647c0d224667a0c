-- Elements of distinct ids, sorted by these: there is one such list.
use Rattle.std.proofs.Common.{◌≡◌, ℕ, suc, ◌+◌, Bool, true, false, List, [], ◌∷◌, ◌++◌, Some, None, Contains, bytes_eq, nat_cmp, is_lt, inl, inr, refl, sym, ap, ◌∙◌, subst, arith}
use Rattle.std.specs.Cmp.Lexicographic.{slice_cmp, nat_list_eq_equiv}
use Rattle.std.specs.List.{IsDistinct, AllByRecursion}
use Rattle.std.specs.Prelude.{slice_index_or}
use Rattle.std.specs.List.Sorted.{IsSortedBy, IsPermutation}
use Rattle.std.proofs.lemmas.Bool.{and_from}
use Rattle.std.proofs.lemmas.List.{map-append}
use Rattle.std.proofs.lemmas.List.Elements.{Contains-append_cases, Contains-append_left, Contains-append_right}
use Rattle.std.proofs.lemmas.List.Sorted.{Contains-permutation, IsPermutation-sym}
use Rattle.std.proofs.lemmas.Option.{none-some}
use Rattle.elem.specs.ElementValue.{ElementValue}
use Rattle.elem.specs.Order.{has_id, HaveDistinctIds}
use Rattle.elem.proofs.CallerLemmas.{AllByRecursion-append}
use Rattle.frac_keys.specs.Keys.{bytes_less}
use Rattle.frac_keys.specs.Rising.{are_rising, rise_between}
use Rattle.frac_keys.proofs.CallerLemmas.{bytes_less-turned}
use Rattle.elem_store.specs.Updates.{element_of, ids_of}
use Rattle.elem_store.proofs.CallerLemmas.{Contains-cons, Contains-head, find-Some, member, same_elements, same_id}
use Rattle.view.proofs.CallerLemmas.{HaveDistinctIds-permuted, HaveDistinctIds-rising}
use Rattle.effects.specs.Changed.{with_created}
use Rattle.effects.proofs.CreatedLaws.{AreApart, absent-parts, some-or-none, created-cases, created-kept, created-rises, created-there}

abbrev pub lower : ElementValue → ElementValue → Bool
lower e other = is_lt (slice_cmp nat_cmp e.id other.id)

-- ---- a sort by distinct ids makes them rise
sorted-tail : (e : ElementValue) (es : List ElementValue) → IsSortedBy lower (e ∷ es) → IsSortedBy lower es
sorted-tail e es up k d low within =
    let next : suc k + 1 ≡ suc (k + 1) = omega arith in
    subst (λ n. lower (slice_index_or (e ∷ es) n d) (slice_index_or es k d) ≡ false) next
    (up (suc k) d (omega arith) (omega (arith, within)))

rises-sorted : (es : List ElementValue) → HaveDistinctIds es → IsSortedBy lower es → are_rising (ids_of es) ≡ true
unfolding IsDistinct
rises-sorted [] apart up = refl
rises-sorted (e ∷ []) apart up = refl
rises-sorted (e ∷ f ∷ es) apart up =
    and_from (bytes_less e.id f.id) (rise_between (Some f.id) None (ids_of es))
    (bytes_less-turned e.id f.id apart.0.0 (up 0 e (omega arith) (omega arith)))
    (rises-sorted (f ∷ es) apart.1 (sorted-tail e (f ∷ es) up))

-- ---- new elements beside others
apart-first : (e : ElementValue) (es new : List ElementValue) → AreApart new (e ∷ es)
    → AllByRecursion (λ id. bytes_eq e.id id ≡ false) (ids_of new)
apart-first e es [] apart = tt
apart-first e es (x ∷ new) apart = (
  nat_list_eq_equiv.symm e.id x.id ∙ (absent-parts x.id e es (apart x (Contains-head x new))).0,
  apart-first e es new (λ d c. apart d (Contains-cons x new d c)),
)

distinct-beside : (es new : List ElementValue) → HaveDistinctIds es → HaveDistinctIds new → AreApart new es
    → HaveDistinctIds (es ++ new)
unfolding IsDistinct
distinct-beside [] new left right apart = right
distinct-beside (e ∷ es) new left right apart = (
  subst (AllByRecursion (λ id. bytes_eq e.id id ≡ false)) (sym (map-append (λ (d : ElementValue). d.id) es new))
      (AllByRecursion-append (λ id. bytes_eq e.id id ≡ false) (ids_of es) (ids_of new) left.0
      (apart-first e es new apart)),
  distinct-beside es new left.1 right (λ d c. (absent-parts d.id e es (apart d c)).1),
)

-- the one sorted list of elements and new ones is that with each new one at its place
module _ (new es all : List ElementValue) (rise : are_rising (ids_of es) ≡ true) (distinct : HaveDistinctIds new)
    (apart : AreApart new es) (moved : IsPermutation (es ++ new) all) (up : IsSortedBy lower all) where
  rises : are_rising (ids_of all) ≡ true
  rises =
      rises-sorted all (HaveDistinctIds-permuted (es ++ new) all moved
      (distinct-beside es new (HaveDistinctIds-rising es rise) distinct apart)) up

  into : (e : ElementValue) → Contains all e → Contains (with_created new es) e
  into e c =
      elim (Contains-append_cases es new e
      (Contains-permutation all (es ++ new) e (IsPermutation-sym (es ++ new) all moved) c)) [
        | inl old ↦ created-kept new es e old
        | inr one ↦ created-there new es e distinct apart one
      ]

  from : (e : ElementValue) → Contains (with_created new es) e → Contains all e
  from e c = Contains-permutation (es ++ new) all e moved (elim (created-cases new es e c) [
    | inl one ↦ Contains-append_right es new e one
    | inr old ↦ Contains-append_left es new e old
  ])

  found : (some others : List ElementValue) → are_rising (ids_of others) ≡ true
      → ((e : ElementValue) → Contains some e → Contains others e) → (id : List ℕ) (e : ElementValue)
      → element_of some id ≡ Some e → element_of others id ≡ Some e
  found some others up to id e is =
      let at = find-Some (has_id id) some e is in
      ap (element_of others) (same_id id e at.1) ∙ member None None others e up (to e at.0)

  same : (id : List ℕ) → element_of all id ≡ element_of (with_created new es) id
  same id = elim (some-or-none (element_of (with_created new es) id)) [
    | inr there ↦ found (with_created new es) all rises from id there.0 there.1 ∙ sym there.1
    | inl none ↦ elim (some-or-none (element_of all id)) [
      | inl absent ↦ absent ∙ sym none
      | inr there ↦ absurd (none-some there.0 (sym none
          ∙ found all (with_created new es) (created-rises new es rise) into id there.0 there.1))
    ]
  ]

  pub with_created-sorted : all ≡ with_created new es
  with_created-sorted = same_elements all (with_created new es) rises (created-rises new es rise) same
