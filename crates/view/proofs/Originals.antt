-- The shown elements as they are stored, in the order of their ids, are the live elements.
use Rattle.std.proofs.Common.{◌≡◌, ℕ, ◌+◌, ◌<◌, true, false, cond, List, [], ◌∷◌, ◌++◌, length, map, get_or, take, Option, Some, None, IfSome, Contains, nat_cmp, refl, sym, ap, ap₂, ◌∙◌, subst}
use Rattle.std.specs.Cmp.{on_total}
use Rattle.std.specs.Cmp.Lexicographic.{slice_cmp, nat_list_cmp_total, texts_ties}
use Rattle.std.specs.List.{All, AllByRecursion}
use Rattle.std.specs.Option.{option_or, unwrap_or}
use Rattle.std.proofs.lemmas.Bool.{cond-true}
use Rattle.std.proofs.lemmas.Option.{none-some}
use Rattle.std.proofs.lemmas.List.Elements.{All-filter, All-more, All-nil, All-weaker, All-contains_itself, recursion_from_All}
use Rattle.std.proofs.lemmas.List.Folds.{find-append}
use Rattle.std.proofs.lemmas.List.Sorted.{IsPermutation-sym, All-permutation}
use Rattle.frac_keys.specs.Keys.{bytes_less}
use Rattle.frac_keys.specs.Rising.{are_rising}
use Rattle.elem.specs.ElementValue.{ElementValue}
use Rattle.elem.specs.Order.{has_id}
use Rattle.elem_store.specs.Updates.{element_of, ids_of}
use Rattle.elem_store.proofs.CallerLemmas.{same_id, find-Some, member, earlier_less}
use Rattle.index_repair.specs.Keyed.{HaveKeysOrNone}
use Rattle.view.specs.Shown.{is_live, live_elements, in_scene_order, in_id_order, shown, as_stored, all_as_stored}
use Rattle.view.proofs.InOrder.{IsElementOrder, HaveDistinctIds-permuted, in_order-only}
use Rattle.view.proofs.SceneOrder.{IsPermutation-in_scene_order}
use Rattle.view.proofs.ShownLaws.{HaveDistinctIds-rising, live_elements-rise, shown-is}

-- ---- what the originals of elements are, while they are gathered
module _ (stored : List ElementValue) where
  -- an element is stored as it is, if one of its id is stored
  abbrev IsSame : ElementValue → Type 0
  IsSame e = IfSome (element_of stored e.id) (λ s. e ≡ s)

  -- an element as it is stored is the stored one of its id, if there is one
  abbrev IsAsStored : List ElementValue → ElementValue → Type 0
  IsAsStored originals e = IfSome (element_of stored e.id) (λ s. as_stored originals e ≡ s)

  -- an element that has no original is stored as it is
  abbrev IsSameOtherwise : List ElementValue → ElementValue → Type 0
  IsSameOtherwise originals e = element_of originals e.id ≡ None → IsSame e

  -- The original of an id is the stored element, and what has no original is stored as it is.
  pub record AreOriginals (elements originals : List ElementValue) : Type 0 where
    pub are : (id : List ℕ) → IfSome (element_of originals id) (λ e. element_of stored id ≡ Some e)
    pub others : All (IsSameOtherwise originals) elements

  pub AreOriginals-none : AreOriginals [] []
  AreOriginals-none = record { are = λ id. tt; others = All-nil (IsSameOtherwise []) }

  pub are_as_stored : (elements originals : List ElementValue) → AreOriginals elements originals
      → All (IsAsStored originals) elements
  are_as_stored elements originals is =
      All-weaker (IsSameOtherwise originals) (IsAsStored originals)
      (λ e other. by e (element_of originals e.id) (is.are e.id) other) elements is.others
    where
      by : (e : ElementValue) (o : Option ElementValue) → IfSome o (λ s. element_of stored e.id ≡ Some s)
          → (o ≡ None → IsSame e) → IfSome (element_of stored e.id) (λ s. unwrap_or o e ≡ s)
      by e None is other = other refl
      by e (Some s) is other = rw is refl

  -- one more original
  are-push : (originals : List ElementValue) (s : ElementValue) (id : List ℕ) → element_of stored s.id ≡ Some s
      → IfSome (element_of originals id) (λ e. element_of stored id ≡ Some e)
      → IfSome (element_of (originals ++ s ∷ []) id) (λ e. element_of stored id ≡ Some e)
  are-push originals s id own is = rw (find-append (has_id id) originals (s ∷ [])) (by (element_of originals id) is)
    where
      by : (o : Option ElementValue) → IfSome o (λ e. element_of stored id ≡ Some e)
          → IfSome (option_or o (element_of (s ∷ []) id)) (λ e. element_of stored id ≡ Some e)
      by (Some e) is = is
      by None is = elim (has_id id s) as (λ b. has_id id s ≡ b
          → IfSome (cond b (Some s) None) (λ e. element_of stored id ≡ Some e)) [
            | true ↦ λ h. ap (element_of stored) (same_id id s h) ∙ own
            | false ↦ λ _. tt
          ] refl

  neither : (o p : Option ElementValue) → option_or o p ≡ None → (o ≡ None) × (p ≡ None)
  neither None p h = (refl, h)
  neither (Some s) p h = cc

  neither-push : (originals : List ElementValue) (s : ElementValue) (id : List ℕ)
      → element_of (originals ++ s ∷ []) id ≡ None → (element_of originals id ≡ None) × (element_of (s ∷ []) id ≡ None)
  neither-push originals s id none = neither _ _ (sym (find-append (has_id id) originals (s ∷ [])) ∙ none)

  module _ (elements originals : List ElementValue) (i : ℕ) (e : ElementValue) (within : i < length elements) (there : e
      ≡ get_or elements i e) (so_far : AreOriginals (take i elements) originals) where
    pub originals-same : IsSame e → AreOriginals (take (i + 1) elements) originals
    originals-same same = record {
      are = so_far.are;
      others =
          All-more (IsSameOtherwise originals) elements i e within so_far.others (λ _. subst IsSame there same);
    }

    pub originals-push : (s : ElementValue) → element_of stored e.id ≡ Some s
        → AreOriginals (take (i + 1) elements) (originals ++ s ∷ [])
    originals-push s found =
        let named : has_id e.id s ≡ true = (find-Some (has_id e.id) stored s found).1 in
        record {
          are = λ id. are-push originals s id (ap (element_of stored) (sym (same_id e.id s named))
              ∙ found) (so_far.are id);
          others = All-more (IsSameOtherwise (originals ++ s ∷ [])) elements i e within
              (All-weaker (IsSameOtherwise originals) (IsSameOtherwise (originals ++ s ∷ []))
              (λ f other none. other (neither-push originals s f.id none).0) (take i elements) so_far.others)
              (subst (IsSameOtherwise (originals ++ s ∷ [])) there
              (λ none. absurd (none-some s (sym (neither-push originals s e.id none).1
              ∙ cond-true (has_id e.id s) (Some s) None named))));
        }

-- ---- the shown elements as they are stored
id_order : IsElementOrder (λ e f. bytes_less e.id f.id) (λ e f. slice_cmp nat_cmp e.id f.id)
id_order = record {
  total = on_total (λ (e : ElementValue). e.id) nat_list_cmp_total;
  less = λ e f. refl;
  tied = λ e f h. texts_ties e.id f.id ∙ h;
}

module _ (stored originals : List ElementValue) (rising : are_rising (ids_of stored) ≡ true) where
  -- elements of the same ids as stored ones
  same_stored : (es fs : List ElementValue) → AllByRecursion (Contains stored) es → ids_of fs ≡ ids_of es
      → AllByRecursion (IsAsStored stored originals) fs → map (as_stored originals) fs ≡ es
  same_stored [] [] within same are = refl
  same_stored [] (f ∷ fs) within same are = cc
  same_stored (e ∷ es) [] within same are = cc
  same_stored (e ∷ es) (f ∷ fs) within same are =
      let here : element_of stored f.id ≡ Some e =
      ap (element_of stored) (cc) ∙ member None None stored e rising within.0 in
      ap₂ (λ x xs. x ∷ xs) (rw here at are.0) (same_stored es fs within.1 (cc) are.1)

  pub all_as_stored-live : (elements : List ElementValue) → HaveKeysOrNone (live_elements stored)
      → elements ≡ shown (live_elements stored) → All (IsAsStored stored originals) elements
      → all_as_stored originals elements ≡ live_elements stored
  all_as_stored-live elements keys exact are =
      let live = live_elements stored in
      let moved = IsPermutation-in_scene_order live in
      let rise = live_elements-rise stored rising in
      let within = All-permutation (Contains stored) live (in_scene_order live) moved
      (All-filter is_live (Contains stored) stored (All-contains_itself stored)) in
      let placed : map (as_stored originals) elements ≡ in_scene_order live =
      same_stored (in_scene_order live) elements (recursion_from_All _ _ within) (ap ids_of exact
      ∙ (shown-is live keys).along) (recursion_from_All _ _ are) in
      let ordered = in_order-only id_order (in_scene_order live) live
      (HaveDistinctIds-permuted live (in_scene_order live) moved (HaveDistinctIds-rising live rise))
      (IsPermutation-sym _ _ moved)
      (λ i j d l m. earlier_less None None live i j d rise l m) in
      ap in_id_order placed ∙ sym ordered
