-- Where an id stands among elements in the order of their ids, and what they become where one is put.
use Rattle.std.proofs.Common.{◌≡◌, ℕ, ◌+◌, ◌-◌, ◌<◌, Bool, true, false, cond, ◌&&◌, List, length, get_or, drop, set, insert, Option, Some, None, Ordering, Less, Equal, Greater, All, slice_get, bytes_eq, is_lt, nat_cmp, refl, sym, ap, ap₂, ◌∙◌, subst, inl, inr, arith, get_or-set_same, length-set, length-take, length-drop}
use Rattle.std.specs.Cmp.Lexicographic.{slice_cmp}
use Rattle.std.specs.Ordering.{ordering_reverse}
use Rattle.std.proofs.lemmas.Bool.{cases_Bool, cases_eq, cond-true, cond-false}
use Rattle.std.proofs.lemmas.Cmp.{nat_list_cmp_total}
use Rattle.std.proofs.lemmas.List.{get_or-take, get_or-drop}
use Rattle.std.proofs.lemmas.List.Folds.{find_past}
use Rattle.std.proofs.lemmas.Map.Lookups.{exact_bytes}
use Rattle.std.proofs.lemmas.Option.{slice_get-get_or, slice_get_within, get_or_from_slice_get}
use Rattle.frac_keys.specs.Keys.{bytes_less}
use Rattle.frac_keys.specs.Rising.{are_rising}
use Rattle.frac_keys.proofs.CallerLemmas.{bytes_less-trans}
use Rattle.elem.specs.ElementValue.{ElementValue}
use Rattle.elem.specs.Order.{has_id}
use Rattle.elem_store.specs.Updates.{element_of, ids_of, is_taken}
use Rattle.elem_store.specs.Places.{IsAt, IsGapFor}
use Rattle.elem_store.proofs.CallerLemmas.{earlier_less, member, same_id, found, ids-set, is_taken-gap, HasTaken-insert}
use Rattle.board_tables.specs.Boards.{HasPut}

abbrev pub AllAbove : List ℕ → List ElementValue → Type 0
AllAbove id elements = All (λ (e : ElementValue). bytes_less id e.id ≡ true) elements

greater-less : (a b : List ℕ) → slice_cmp nat_cmp a b ≡ Greater → bytes_less b a ≡ true
greater-less a b h = ap is_lt (nat_list_cmp_total.antisymm b a ∙ ap ordering_reverse h)

module _ (elements : List ElementValue) (id : List ℕ) (i m : ℕ) (x : ElementValue) (next : i ≡ m + 1)
    (here : slice_get elements m ≡ Some x) where
  within : m < length elements
  within = slice_get_within elements m x here

  -- the element before the index is greater too
  pub above-more : slice_cmp nat_cmp x.id id ≡ Greater → AllAbove id (drop i elements) → AllAbove id (drop m elements)
  above-more more above k d l =
      elim (cases_eq k 0) [
        | inl e ↦ let at : get_or (drop m elements) k d ≡ x =
            get_or-drop m elements k d
            ∙ (ap (λ j. get_or elements j d) (let same : m + k ≡ m = omega arith in same)
            ∙ get_or_from_slice_get elements m x d here) in
            subst (λ (y : ElementValue). bytes_less id y.id ≡ true) (sym at) (greater-less x.id id more)
        | inr ne ↦ let at : get_or (drop m elements) k d ≡ get_or (drop i elements) (k - 1) d =
            get_or-drop m elements k d
            ∙ (ap (λ j. get_or elements j d) (let same : m + k ≡ i + (k - 1) = omega arith in same)
            ∙ sym (get_or-drop i elements (k - 1) d)) in
            let least : k - 1 < length (drop i elements) = omega (
              arith,
              l,
              length-drop i elements,
              length-drop m elements,
            ) in
            subst (λ (y : ElementValue). bytes_less id y.id ≡ true) (sym at) (above (k - 1) d least)
      ]

  -- where the element before the index is less, the index is the gap for the id
  pub gap-here : are_rising (ids_of elements) ≡ true → slice_cmp nat_cmp x.id id ≡ Less
      → AllAbove id (drop i elements) → IsGapFor elements id i
  gap-here rising less above = record {
    in_range = omega (arith, within);
    less_before = λ k d l.
        let low : k < i = omega (arith, length-take i elements) in
        rw (get_or-take i elements k d low) (below k d low);
    greater_after = above;
  }
    where
      below : (k : ℕ) (d : ElementValue) → k < i → bytes_less (get_or elements k d).id id ≡ true
      below k d low =
          let last : get_or elements m d ≡ x = get_or_from_slice_get elements m x d here in
          let small : bytes_less x.id id ≡ true = ap is_lt less in
          elim (cases_eq k m) [
            | inl e ↦ subst (λ (y : ElementValue). bytes_less y.id id ≡ true)
                (sym (ap (λ j. get_or elements j d) e ∙ last)) small
            | inr ne ↦ bytes_less-trans (get_or elements k d).id x.id id
                (subst (λ (y : ElementValue). bytes_less (get_or elements k d).id y.id ≡ true) last
                (earlier_less None None elements k m d rising (omega arith) within)) small
          ]

  pub found-here : slice_cmp nat_cmp x.id id ≡ Equal → IsAt elements id m
  found-here same = rw here (exact_bytes x.id id same)

-- an element in the place of the one of its id
pub HasPut-set : (elements : List ElementValue) (e : ElementValue) (i : ℕ) → are_rising (ids_of elements) ≡ true
    → IsAt elements e.id i → HasPut elements e (set elements i e)
HasPut-set elements e i rising at =
    let x = found (slice_get elements i) e.id at in
    let ids : ids_of (set elements i e) ≡ ids_of elements = ids-set elements rising e i x.0 x.1 x.2 in
    let still : are_rising (ids_of (set elements i e)) ≡ true = ap are_rising ids ∙ rising in
    let inside : i < length elements = slice_get_within elements i x.0 x.1 in
    record {
      ordered = still;
      each = λ id. elim (cases_Bool (has_id id e)) [
        | inl t ↦ ap (element_of (set elements i e)) (same_id id e t)
            ∙ (member None None (set elements i e) e still
            (i, rw (length-set elements i e) inside, get_or-set_same elements i e e inside)
            ∙ sym (cond-true (has_id id e) (Some e) (element_of elements id) t))
        | inr f ↦ find_past (has_id id) elements i e e
            (ap (has_id id) (get_or_from_slice_get elements i x.0 e x.1) ∙ (ap (bytes_eq id) x.2 ∙ f)) f
            ∙ sym (cond-false (has_id id e) (Some e) (element_of elements id) f)
      ];
    }

and-true : (b taken : Bool) (x y : Option ElementValue) → taken ≡ true → cond (b && taken) x y ≡ cond b x y
and-true true taken x y t = cond-true taken x y t
and-true false taken x y t = refl

-- an element in the gap for its id
pub HasPut-insert : (elements : List ElementValue) (e : ElementValue) (i : ℕ) → are_rising (ids_of elements) ≡ true
    → IsGapFor elements e.id i → HasPut elements e (insert elements i e)
HasPut-insert elements e i rising gap =
    let taken = HasTaken-insert elements e i rising gap in
    record {
      ordered = taken.ordered;
      each = λ id. taken.each id
          ∙ and-true (has_id id e) (is_taken elements e) (Some e) (element_of elements id)
          (is_taken-gap elements e i gap);
    }

-- the element that was read at an index
pub read-here : (elements : List ElementValue) (m : ℕ) (x : ElementValue) → m < length elements → x ≡ get_or elements m x
    → slice_get elements m ≡ Some x
read-here elements m x inside read = slice_get-get_or elements m x inside ∙ ap Some (sym read)

-- how its id compares, as the bytes that were read of both do
pub order-here : (x : ElementValue) (own a b id : List ℕ) (order c : Ordering) → x.id ≡ own → a ≡ own → b ≡ id
    → order ≡ slice_cmp nat_cmp a b → order ≡ c → slice_cmp nat_cmp x.id id ≡ c
order-here x own a b id order c same first second compared is =
    ap₂ (slice_cmp nat_cmp) (same ∙ sym first) (sym second) ∙ (sym compared ∙ is)
