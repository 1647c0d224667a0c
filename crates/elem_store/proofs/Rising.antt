-- What an element of a list is in which the ids rise.
use Rattle.std.proofs.Common.{◌≡◌, ℕ, zero, suc, ◌<◌, true, List, [], ◌∷◌, length, get_or, Option, Some, None, Contains, refl, sym, ap, ◌∙◌, subst, inl, inr, arith}
use Rattle.std.proofs.lemmas.Bool.{and_parts, both_ways, cases_Bool, cond-true, cond-false}
use Rattle.std.proofs.lemmas.List.Elements.{Contains-get_or}
use Rattle.std.proofs.lemmas.Option.{none-some}
use Rattle.frac_keys.specs.Keys.{bytes_less}
use Rattle.frac_keys.specs.Rising.{ends_rise, rise_between, are_rising}
use Rattle.frac_keys.proofs.CallerLemmas.{bytes_less_itself, bytes_less-trans}
use Rattle.elem.specs.ElementValue.{ElementValue}
use Rattle.elem.specs.Order.{has_id}
use Rattle.elem_store.specs.Updates.{element_of, ids_of}
use Rattle.elem_store.proofs.Ids.{same_id, of_itself, of_other}
use Rattle.elem_store.proofs.Lists.{Contains-cases, find-Some, find-None}

-- a lesser id is another one
pub less-other : (a b : List ℕ) → bytes_less a b ≡ true → a ≡ b → ⊥
less-other a b h e = both_ways (bytes_less a a) (bytes_less_itself a) (subst (λ x. bytes_less a x ≡ true) (sym e) h)

-- and not greater too
pub less-less : (a b : List ℕ) → bytes_less a b ≡ true → bytes_less b a ≡ true → ⊥
less-less a b h k = less-other a a (bytes_less-trans a b a h k) refl

-- the ids above an end are above it
pub above : (k : List ℕ) (b : Option (List ℕ)) (elements : List ElementValue) (e : ElementValue)
    → rise_between (Some k) b (ids_of elements) ≡ true → Contains elements e → bytes_less k e.id ≡ true
above k b [] e h c = absurd (omega (arith, c.1))
above k b (f ∷ elements) e h c =
    let parts = and_parts (bytes_less k f.id) (rise_between (Some f.id) b (ids_of elements)) h in
    elim (Contains-cases f elements e c) [
      | inl same ↦ subst (λ (x : ElementValue). bytes_less k x.id ≡ true) same parts.0
      | inr later ↦ bytes_less-trans k f.id e.id parts.0 (above f.id b elements e parts.1 later)
    ]

-- so the end is the id of none of them
pub none_above : (k : List ℕ) (b : Option (List ℕ)) (elements : List ElementValue)
    → rise_between (Some k) b (ids_of elements) ≡ true → element_of elements k ≡ None
none_above k b elements h =
    find-None (has_id k) elements (λ e c. of_other k e (less-other k e.id (above k b elements e h c)))

-- an element of the list is the one of its id
pub member : (a b : Option (List ℕ)) (elements : List ElementValue) (e : ElementValue)
    → rise_between a b (ids_of elements) ≡ true → Contains elements e → element_of elements e.id ≡ Some e
member a b [] e h c = absurd (omega (arith, c.1))
member a b (f ∷ elements) e h c =
    let parts = and_parts (ends_rise a (Some f.id)) (rise_between (Some f.id) b (ids_of elements)) h in
    elim (Contains-cases f elements e c) [
      | inl same ↦ cond-true (has_id e.id f) (Some f) (element_of elements e.id)
          (subst (λ (x : ElementValue). has_id x.id f ≡ true) same (of_itself f)) ∙ ap Some same
      | inr later ↦ cond-false (has_id e.id f) (Some f) (element_of elements e.id)
          (of_other e.id f (λ same. less-other f.id e.id (above f.id b elements e parts.1 later) (sym same)))
          ∙ member (Some f.id) b elements e parts.1 later
    ]

-- the elements of two such lists are the same if those of each id are
same_heads : (e f : ElementValue) (es fs : List ElementValue) → rise_between (Some e.id) None (ids_of es) ≡ true
    → rise_between (Some f.id) None (ids_of fs) ≡ true → Contains (f ∷ fs) e → Contains (e ∷ es) f → e ≡ f
same_heads e f es fs h k c d =
    elim (Contains-cases f fs e c) [
      | inl same ↦ sym same
      | inr below ↦ elim (Contains-cases e es f d) [
        | inl same ↦ same
        | inr above' ↦ absurd (less-less e.id f.id (above e.id None es f h above') (above f.id None fs e k below))
      ]
    ]

first : (e : ElementValue) (es : List ElementValue) → element_of (e ∷ es) e.id ≡ Some e
first e es = cond-true (has_id e.id e) (Some e) (element_of es e.id) (of_itself e)

same_tails : (e : ElementValue) (es fs : List ElementValue) → rise_between (Some e.id) None (ids_of es) ≡ true
    → rise_between (Some e.id) None (ids_of fs) ≡ true
    → ((id : List ℕ) → element_of (e ∷ es) id ≡ element_of (e ∷ fs) id) → (id : List ℕ)
    → element_of es id ≡ element_of fs id
same_tails e es fs h k same id =
    elim (cases_Bool (has_id id e)) [
      | inl t ↦ let own = same_id id e t in
          ap (element_of es) own ∙ none_above e.id None es h ∙ sym (ap (element_of fs) own ∙ none_above e.id None fs k)
      | inr f ↦ sym (cond-false (has_id id e) (Some e) (element_of es id) f) ∙ same id
          ∙ cond-false (has_id id e) (Some e) (element_of fs id) f
    ]

pub same_elements : (es fs : List ElementValue) → are_rising (ids_of es) ≡ true → are_rising (ids_of fs) ≡ true
    → ((id : List ℕ) → element_of es id ≡ element_of fs id) → es ≡ fs
same_elements [] [] h k same = refl
same_elements [] (f ∷ fs) h k same = absurd (none-some f (same f.id ∙ first f fs))
same_elements (e ∷ es) [] h k same = absurd (none-some e (sym (same e.id) ∙ first e es))
same_elements (e ∷ es) (f ∷ fs) h k same =
    let one : e ≡ f = same_heads e f es fs h k
    (find-Some (has_id e.id) (f ∷ fs) e (sym (same e.id) ∙ first e es)).0
    (find-Some (has_id f.id) (e ∷ es) f (same f.id ∙ first f fs)).0 in
    let k' : rise_between (Some e.id) None (ids_of fs) ≡ true =
    subst (λ (x : ElementValue). rise_between (Some x.id) None (ids_of fs) ≡ true) (sym one) k in
    let same' : (id : List ℕ) → element_of (e ∷ es) id ≡ element_of (e ∷ fs) id =
    λ id. same id ∙ ap (λ x. element_of (x ∷ fs) id) (sym one) in
    ap (λ x. e ∷ x) (same_elements es fs (rising_tail e es h) (rising_tail e fs k') (same_tails e es fs h k' same'))
    ∙ ap (λ x. x ∷ fs) one
  where
    rising_tail : (e : ElementValue) (es : List ElementValue) → rise_between (Some e.id) None (ids_of es) ≡ true
        → are_rising (ids_of es) ≡ true
    rising_tail e [] h = refl
    rising_tail e (f ∷ es) h = (and_parts (bytes_less e.id f.id) (rise_between (Some f.id) None (ids_of es)) h).1

-- an earlier id is less than a later one
pub earlier_less : (a b : Option (List ℕ)) (elements : List ElementValue) (i j : ℕ) (d : ElementValue)
    → rise_between a b (ids_of elements) ≡ true → i < j → j < length elements
    → bytes_less (get_or elements i d).id (get_or elements j d).id ≡ true
earlier_less a b [] i j d h l m = absurd (omega arith)
earlier_less a b (e ∷ elements) i zero d h l m = absurd (omega arith)
earlier_less a b (e ∷ elements) zero (suc j) d h l m =
    let parts = and_parts (ends_rise a (Some e.id)) (rise_between (Some e.id) b (ids_of elements)) h in
    above e.id b elements (get_or elements j d) parts.1 (Contains-get_or elements j d (omega arith))
earlier_less a b (e ∷ elements) (suc i) (suc j) d h l m =
    let parts = and_parts (ends_rise a (Some e.id)) (rise_between (Some e.id) b (ids_of elements)) h in
    earlier_less (Some e.id) b elements i j d parts.1 (omega arith) (omega arith)
