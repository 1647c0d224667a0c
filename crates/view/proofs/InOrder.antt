-- Elements in an order: a permutation in which each comes before those behind it, and the only one.
use Rattle.std.proofs.Common.{◌≡◌, ℕ, ◌+◌, ◌<◌, Bool, true, false, List, [], ◌∷◌, length, get_or, Ordering, is_lt, bytes_eq, Contains, AllPairs, refl, sym, ap, ◌∙◌, subst₂, inl, inr, arith}
use Rattle.std.proofs.lemmas.List.{length-map}
use Rattle.std.specs.Cmp.{IsTotalOrder}
use Rattle.std.specs.List.{AllByRecursion, IsAllAdjacentAnswer, IsDistinct}
use Rattle.std.specs.List.Sorted.{IsPermutation, IsSortedBy, IsStrictlySortedBy}
use Rattle.std.specs.Cmp.Lexicographic.{nat_list_eq_equiv}
use Rattle.std.specs.Ordering.{is_eq, ordering_reverse}
use Rattle.std.specs.declared.cmp.Ordering.TheVariants.{Less, Equal, Greater}
use Rattle.std.proofs.Math.ListN.{get_or-map}
use Rattle.std.proofs.ByRecursion.{All-weaker}
use Rattle.std.proofs.lemmas.Bool.{cond_both, both_ways}
use Rattle.std.proofs.lemmas.Cmp.{tied_itself}
use Rattle.std.proofs.lemmas.List.Elements.{All-cons, All-contains, All-from_recursion, recursion_from_All}
use Rattle.std.proofs.lemmas.List.Sorted.{IsPermutation-refl, IsPermutation-sym, IsPermutation-cons, IsPermutation-trans, IsPermutation-middle, IsPermutation-map, Contains-permutation, All-permutation}
use Rattle.std.proofs.lemmas.Map.Keys.{IsDistinct-IsPermutation, sorted_head, sorted_tail, sorted_from_all_adjacent, apart_from_distinct, Less-from_sorted}
use Rattle.elem.specs.ElementValue.{ElementValue}
use Rattle.elem_store.specs.Updates.{ids_of}
use Rattle.elem_store.proofs.CallerLemmas.{Contains-head, Contains-cons, Contains-cases}
use Rattle.elem.specs.Order.{HaveDistinctIds}
use Rattle.view.specs.Shown.{with_element, in_order}

-- ---- there is one strictly sorted list of some elements
module _ {X : Type 0} {R : X → X → Ordering} (o : IsTotalOrder R) where
  not_less_itself : (x y : X) → x ≡ y → R x y ≡ Less → ⊥
  not_less_itself x y e h = let tied : R x y ≡ Equal = ap (R x) (sym e) ∙ tied_itself o x in cc

  not_both_less : (x y : X) → R x y ≡ Less → R y x ≡ Less → ⊥
  not_both_less x y h k = not_less_itself x x refl (o.trans x y x h k)

  below : (x y : X) (ys : List X) → IsStrictlySortedBy R (x ∷ ys) → Contains ys y → R x y ≡ Less
  below x y ys s c =
      let P : X → Type 0 = λ z. R x z ≡ Less in All-contains P ys y (All-from_recursion P ys (sorted_head R x ys s)) c

  same_first : (x y : X) (xs ys : List X) → IsStrictlySortedBy R (x ∷ xs) → IsStrictlySortedBy R (y ∷ ys)
      → Contains (y ∷ ys) x → Contains (x ∷ xs) y → x ≡ y
  same_first x y xs ys s t c d =
      elim (Contains-cases y ys x c) [
        | inl e ↦ sym e
        | inr later ↦ elim (Contains-cases x xs y d) [
          | inl e ↦ e
          | inr other ↦ absurd (not_both_less x y (below x y xs s other) (below y x ys t later))
        ]
      ]

  among_later : (x y z : X) (xs ys : List X) → x ≡ y → IsStrictlySortedBy R (x ∷ xs) → Contains xs z
      → Contains (y ∷ ys) z → Contains ys z
  among_later x y z xs ys e s c d =
      elim (Contains-cases y ys z d) [
        | inl is ↦ absurd (not_less_itself x z (e ∙ is) (below x z xs s c))
        | inr later ↦ later
      ]

  pub same_sorted : (xs ys : List X) → IsStrictlySortedBy R xs → IsStrictlySortedBy R ys
      → ((z : X) → Contains xs z → Contains ys z) → ((z : X) → Contains ys z → Contains xs z) → xs ≡ ys
  same_sorted [] [] s t to back = refl
  same_sorted [] (y ∷ ys) s t to back = absurd (let c = back y (Contains-head y ys) in omega (arith, c.1))
  same_sorted (x ∷ xs) [] s t to back = absurd (let c = to x (Contains-head x xs) in omega (arith, c.1))
  same_sorted (x ∷ xs) (y ∷ ys) s t to back =
      let e = same_first x y xs ys s t (to x (Contains-head x xs)) (back y (Contains-head y ys)) in
      let rest = same_sorted xs ys (sorted_tail R x xs s) (sorted_tail R y ys t)
      (λ z c. among_later x y z xs ys e s c (to z (Contains-cons x xs z c)))
      (λ z c. among_later y x z ys xs (sym e) t c (back z (Contains-cons y ys z c))) in
      λ i. e i ∷ rest i

-- ---- sorting only moves elements
module _ (before : ElementValue → ElementValue → Bool) where
  IsPermutation-with_element : (e : ElementValue) (es : List ElementValue)
      → IsPermutation (e ∷ es) (with_element before e es)
  IsPermutation-with_element e [] = IsPermutation-refl (e ∷ [])
  IsPermutation-with_element e (f ∷ fs) =
      cond_both (before f e) (f ∷ with_element before e fs) (e ∷ f ∷ fs) (IsPermutation (e ∷ f ∷ fs))
      (λ _. IsPermutation-trans _ (f ∷ e ∷ fs) _ (IsPermutation-sym _ _ (IsPermutation-middle (f ∷ []) e fs))
      (IsPermutation-cons f _ _ (IsPermutation-with_element e fs)))
      (λ _. IsPermutation-refl (e ∷ f ∷ fs))

  pub IsPermutation-in_order : (es : List ElementValue) → IsPermutation es (in_order before es)
  IsPermutation-in_order [] = IsPermutation-refl []
  IsPermutation-in_order (e ∷ es) =
      IsPermutation-trans _ (e ∷ in_order before es) _ (IsPermutation-cons e _ _ (IsPermutation-in_order es))
      (IsPermutation-with_element e (in_order before es))

pub HaveDistinctIds-permuted : (es fs : List ElementValue) → IsPermutation es fs → HaveDistinctIds es
    → HaveDistinctIds fs
HaveDistinctIds-permuted es fs moved =
    IsDistinct-IsPermutation bytes_eq nat_list_eq_equiv.symm (ids_of es) (ids_of fs)
    (IsPermutation-map (λ (e : ElementValue). e.id) es fs moved)

from_is_lt : (o : Ordering) → is_lt o ≡ true → o ≡ Less
from_is_lt Less h = refl
from_is_lt Equal h = cc
from_is_lt Greater h = cc

ids_apart : (e : ElementValue) (es : List ElementValue) → AllByRecursion (λ id. bytes_eq e.id id ≡ false) (ids_of es)
    → AllByRecursion (λ (f : ElementValue). bytes_eq e.id f.id ≡ false) es
ids_apart e [] h = tt
ids_apart e (f ∷ fs) h = (h.0, ids_apart e fs h.1)

-- ---- a total order of elements, in which those of different ids aren't tied
pub record IsElementOrder (before : ElementValue → ElementValue → Bool) (R : ElementValue → ElementValue
    → Ordering) : Type 0 where
  pub total : IsTotalOrder R
  pub less : (e f : ElementValue) → before e f ≡ is_lt (R e f)
  pub tied : (e f : ElementValue) → is_eq (R e f) ≡ true → bytes_eq e.id f.id ≡ true

module _ {before : ElementValue → ElementValue → Bool} {R : ElementValue → ElementValue
    → Ordering} (o : IsElementOrder before R) where
  less_from_before : (e f : ElementValue) → before e f ≡ true → R e f ≡ Less
  less_from_before e f h = from_is_lt (R e f) (sym (o.less e f) ∙ h)

  -- what has another id and isn't behind comes before
  less_from_others : (e f : ElementValue) → bytes_eq e.id f.id ≡ false → before f e ≡ false → R e f ≡ Less
  less_from_others e f apart behind = by (R e f) refl where
    by : (p : Ordering) → R e f ≡ p → p ≡ Less
    by Less is = refl
    by Equal is = absurd (both_ways (bytes_eq e.id f.id) apart (o.tied e f (ap is_eq is)))
    by Greater is =
        let turned : R f e ≡ Less = o.total.antisymm f e ∙ ap ordering_reverse is in
        absurd (both_ways (before f e) behind (o.less f e ∙ ap is_lt turned))

  -- ---- sorted elements are in order
  sorted-with_element : (e : ElementValue) (es : List ElementValue)
      → AllByRecursion (λ (f : ElementValue). bytes_eq e.id f.id ≡ false) es → IsStrictlySortedBy R es
      → IsStrictlySortedBy R (with_element before e es)
  unfolding IsStrictlySortedBy
  sorted-with_element e [] apart s = (tt, tt)
  sorted-with_element e (f ∷ fs) apart s =
      cond_both (before f e) (f ∷ with_element before e fs) (e ∷ f ∷ fs) (IsStrictlySortedBy R)
      (λ first.
      let P : ElementValue → Type 0 = λ g. R f g ≡ Less in
      let others = All-cons P e fs (less_from_before f e first) (All-from_recursion P fs s.0) in (
        recursion_from_All P (with_element before e fs) (All-permutation P (e ∷ fs) (with_element before e fs)
            (IsPermutation-with_element before e fs) others),
        sorted-with_element e fs apart.1 s.1,
      ))
      (λ behind.
      let first = less_from_others e f apart.0 behind in
      ((first, All-weaker (λ g. R f g ≡ Less) (λ g. R e g ≡ Less) (λ g h. o.total.trans e f g first h) fs s.0), s))

  sorted-in_order : (es : List ElementValue) → HaveDistinctIds es → IsStrictlySortedBy R (in_order before es)
  unfolding IsDistinct IsStrictlySortedBy
  sorted-in_order [] apart = tt
  sorted-in_order (e ∷ es) apart =
      let P : ElementValue → Type 0 = λ f. bytes_eq e.id f.id ≡ false in
      let others = All-permutation P es (in_order before es) (IsPermutation-in_order before es)
      (All-from_recursion P es (ids_apart e es apart.0)) in
      sorted-with_element e (in_order before es) (recursion_from_All P (in_order before es) others)
      (sorted-in_order es apart.1)

  pub AllPairs-in_order : (es : List ElementValue) → HaveDistinctIds es
      → AllPairs (λ e f. before e f ≡ true) (in_order before es)
  AllPairs-in_order es apart i j d l m =
      o.less (get_or (in_order before es) i d) (get_or (in_order before es) j d)
      ∙ ap is_lt (Less-from_sorted R (in_order before es) i j d (sorted-in_order es apart) l m)

  sorted_from_pairs : (es : List ElementValue) → AllPairs (λ e f. before e f ≡ true) es → IsStrictlySortedBy R es
  unfolding IsStrictlySortedBy
  sorted_from_pairs [] h = tt
  sorted_from_pairs (e ∷ es) h =
      sorted_from_all_adjacent o.total (e ∷ es) e
      (λ k l. less_from_before (get_or (e ∷ es) k e) (get_or (e ∷ es) (k + 1) e) (h k (k + 1) e (omega arith) l))

  -- ---- and they are the only permutation that is
  only_sorted : (es fs : List ElementValue) → HaveDistinctIds es → IsPermutation es fs → IsStrictlySortedBy R fs
      → fs ≡ in_order before es
  only_sorted es fs apart moved s =
      let to = IsPermutation-trans fs es (in_order before es) (IsPermutation-sym es fs moved)
      (IsPermutation-in_order before es) in
      same_sorted o.total fs (in_order before es) s (sorted-in_order es apart)
      (λ e c. Contains-permutation fs (in_order before es) e to c)
      (λ e c. Contains-permutation (in_order before es) fs e (IsPermutation-sym fs (in_order before es) to) c)

  pub in_order-only : (es fs : List ElementValue) → HaveDistinctIds es → IsPermutation es fs
      → AllPairs (λ e f. before e f ≡ true) fs → fs ≡ in_order before es
  in_order-only es fs apart moved h = only_sorted es fs apart moved (sorted_from_pairs fs h)

  pub in_order-permuted : (es fs : List ElementValue) → HaveDistinctIds es → IsPermutation es fs
      → in_order before fs ≡ in_order before es
  in_order-permuted es fs apart moved =
      only_sorted es (in_order before fs) apart
      (IsPermutation-trans es fs (in_order before fs) moved (IsPermutation-in_order before fs))
      (sorted-in_order fs (HaveDistinctIds-permuted es fs moved apart))

  -- what a sort gives
  sorted_from_sort : (fs : List ElementValue) → HaveDistinctIds fs → IsSortedBy before fs → IsStrictlySortedBy R fs
  unfolding IsStrictlySortedBy
  sorted_from_sort [] apart up = tt
  sorted_from_sort (f ∷ fs) apart up =
      sorted_from_all_adjacent o.total (f ∷ fs) f (λ k l.
      less_from_others (get_or (f ∷ fs) k f) (get_or (f ∷ fs) (k + 1) f) (ids_differ k l) (up k f (omega arith) l))
    where
      ids_differ : (k : ℕ) → k + 1 < length (f ∷ fs) → bytes_eq (get_or (f ∷ fs) k f).id (get_or (f ∷ fs) (k + 1) f).id
          ≡ false
      ids_differ k l =
          subst₂ (λ a b. bytes_eq a b ≡ false) (get_or-map (λ (e : ElementValue). e.id) (f ∷ fs) k f)
          (get_or-map (λ (e : ElementValue). e.id) (f ∷ fs) (k + 1) f)
          (apart_from_distinct bytes_eq (ids_of (f ∷ fs)) k (k + 1) f.id apart (omega arith)
          (omega (arith, length-map (f ∷ fs) (λ (e : ElementValue). e.id))))

  pub in_order-from_sort : (es fs : List ElementValue) → HaveDistinctIds es → IsPermutation es fs → IsSortedBy before fs
      → fs ≡ in_order before es
  in_order-from_sort es fs apart moved up =
      only_sorted es fs apart moved (sorted_from_sort fs (HaveDistinctIds-permuted es fs moved apart) up)

  -- ---- elements of which each comes before the next
  pub pairs_from_neighbours : (es : List ElementValue) → IsAllAdjacentAnswer (λ e f b. b ≡ before e f) es true
      → AllPairs (λ e f. before e f ≡ true) es
  pairs_from_neighbours [] h i j d l m = absurd (omega arith)
  pairs_from_neighbours (e ∷ es) h i j d l m =
      let up = sorted_from_all_adjacent o.total (e ∷ es) e
      (λ k n. less_from_before (get_or (e ∷ es) k e) (get_or (e ∷ es) (k + 1) e) (sym (h k e n))) in
      o.less (get_or (e ∷ es) i d) (get_or (e ∷ es) j d) ∙ ap is_lt (Less-from_sorted R (e ∷ es) i j d up l m)

  pub not_in_pairs : (es : List ElementValue) → IsAllAdjacentAnswer (λ e f b. b ≡ before e f) es false
      → AllPairs (λ e f. before e f ≡ true) es → ⊥
  not_in_pairs [] h all = absurd (let l : h.0 + 1 < 0 = h.1 in omega arith)
  not_in_pairs (e ∷ es) h all = both_ways (before (get_or (e ∷ es) h.0 e) (get_or (e ∷ es) (h.0 + 1) e)) (sym (h.2 e))
      (all h.0 (h.0 + 1) e (omega arith) h.1)

  -- the same elements, each of which comes before those behind it
  pub in_order-same : (es fs : List ElementValue) → HaveDistinctIds es
      → ((e : ElementValue) → Contains fs e → Contains es e) → ((e : ElementValue) → Contains es e → Contains fs e)
      → AllPairs (λ e f. before e f ≡ true) fs → fs ≡ in_order before es
  in_order-same es fs apart to back h =
      let moved = IsPermutation-in_order before es in
      same_sorted o.total fs (in_order before es) (sorted_from_pairs fs h) (sorted-in_order es apart)
      (λ e c. Contains-permutation es (in_order before es) e moved (to e c))
      (λ e c. back e (Contains-permutation (in_order before es) es e (IsPermutation-sym es (in_order before es) moved)
      c))
