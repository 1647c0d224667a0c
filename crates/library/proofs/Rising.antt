-- Items whose ids rise.
use Rattle.std.proofs.Common.{◌≡◌, ℕ, true, false, List, [], ◌∷◌, Option, Some, None, Contains, map, refl, sym, ap, ap₂, ◌∙◌, subst, inl, inr, arith}
use Rattle.std.proofs.lemmas.Bool.{and_parts, cases_Bool, cond-true, cond-false, false_from_ne_true}
use Rattle.std.proofs.lemmas.Option.{none-some}
use Rattle.std.proofs.lemmas.Slice.Eq.{bytes_eq-Decides}
use Rattle.frac_keys.specs.Keys.{bytes_less}
use Rattle.frac_keys.specs.Rising.{ends_rise, rise_between, are_rising}
use Rattle.frac_keys.proofs.CallerLemmas.{bytes_less-trans}
use Rattle.elem_store.proofs.CallerLemmas.{Contains-cases, Contains-cons, Contains-head, find-None, find-Some, less-less, less-other}
use Rattle.library.specs.Best.{has_id, ids_of, item_of}
use Rattle.library.specs.declared.item.Item.{Item}

-- ---- whether an item is of an id
pub same_id : (id : List ℕ) (item : Item) → has_id id item ≡ true → id ≡ item.id
same_id id item h = (bytes_eq-Decides id item.id).0 h

pub of_same : (id : List ℕ) (item : Item) → id ≡ item.id → has_id id item ≡ true
of_same id item h = (bytes_eq-Decides id item.id).1 h

pub of_itself : (item : Item) → has_id item.id item ≡ true
of_itself item = of_same item.id item refl

pub of_other : (id : List ℕ) (item : Item) → (id ≡ item.id → ⊥) → has_id id item ≡ false
of_other id item ne = false_from_ne_true (has_id id item) (λ t. ne (same_id id item t))

-- ---- the item of an id
-- the item that is found is one of the list, and of the id
pub found : (items : List Item) (id : List ℕ) (item : Item) → item_of items id ≡ Some item → Contains items item
    × (item.id ≡ id)
found items id item h = let f = find-Some (has_id id) items item h in (f.0, sym (same_id id item f.1))

-- none is found where none is of the id
pub none_found : (items : List Item) (id : List ℕ) → ((item : Item) → Contains items item → item.id ≡ id → ⊥)
    → item_of items id ≡ None
none_found items id none = find-None (has_id id) items (λ item c. of_other id item (λ e. none item c (sym e)))

-- where none is found none is of the id
pub found_none : (items : List Item) (id : List ℕ) (item : Item) → item_of items id ≡ None → Contains items item
    → item.id ≡ id → ⊥
found_none [] id item h c e = omega (arith, c.1)
found_none (x ∷ items) id item h c e = elim (cases_Bool (has_id id x)) [
  | inl t ↦ none-some x (sym h ∙ cond-true (has_id id x) (Some x) (item_of items id) t)
  | inr f ↦ elim (Contains-cases x items item c) [
    | inl same ↦ none-some x (sym h ∙ cond-true (has_id id x) (Some x) (item_of items id)
        (of_same id x (sym (ap (λ (y : Item). y.id) same ∙ e))))
    | inr later ↦ found_none items id item (sym (cond-false (has_id id x) (Some x) (item_of items id) f) ∙ h) later e
  ]
]

-- the ids of a list are those of its items
pub id_among : (items : List Item) (item : Item) → Contains items item → Contains (ids_of items) item.id
id_among [] item c = absurd (omega (arith, c.1))
id_among (x ∷ items) item c = elim (Contains-cases x items item c) [
  | inl same ↦ subst (λ (y : Item). Contains (x.id ∷ ids_of items) y.id) same (Contains-head x.id (ids_of items))
  | inr later ↦ Contains-cons x.id (ids_of items) item.id (id_among items item later)
]

pub item_among : (items : List Item) (id : List ℕ) → Contains (ids_of items) id → (item : Item) × Contains items item
    × (item.id ≡ id)
item_among [] id c = absurd (omega (arith, c.1))
item_among (x ∷ items) id c = elim (Contains-cases x.id (ids_of items) id c) [
  | inl same ↦ (x, Contains-head x items, same)
  | inr later ↦ let r = item_among items id later in (r.0, Contains-cons x items r.0 r.1, r.2)
]

-- ---- items whose ids rise
-- the ids above an end are above it
above : (k : List ℕ) (b : Option (List ℕ)) (items : List Item) (item : Item)
    → rise_between (Some k) b (ids_of items) ≡ true → Contains items item → bytes_less k item.id ≡ true
above k b [] item h c = absurd (omega (arith, c.1))
above k b (x ∷ items) item h c =
    let parts = and_parts (bytes_less k x.id) (rise_between (Some x.id) b (ids_of items)) h in
    elim (Contains-cases x items item c) [
      | inl same ↦ subst (λ (y : Item). bytes_less k y.id ≡ true) same parts.0
      | inr later ↦ bytes_less-trans k x.id item.id parts.0 (above x.id b items item parts.1 later)
    ]

-- two items of one id are one
one_between : (a : Option (List ℕ)) (items : List Item) (item other : Item) → rise_between a None (ids_of items) ≡ true
    → Contains items item → Contains items other → item.id ≡ other.id → item ≡ other
one_between a [] item other h c d e = absurd (omega (arith, c.1))
one_between a (x ∷ items) item other h c d e =
    let parts = and_parts (ends_rise a (Some x.id)) (rise_between (Some x.id) None (ids_of items)) h in
    elim (Contains-cases x items item c) [
      | inl first ↦ elim (Contains-cases x items other d) [
        | inl second ↦ sym first ∙ second
        | inr later ↦ absurd (less-other x.id other.id (above x.id None items other parts.1 later)
            (ap (λ (y : Item). y.id) first ∙ e))
      ]
      | inr later ↦ elim (Contains-cases x items other d) [
        | inl second ↦ absurd (less-other x.id item.id (above x.id None items item parts.1 later)
            (ap (λ (y : Item). y.id) second ∙ sym e))
        | inr also ↦ one_between (Some x.id) items item other parts.1 later also e
      ]
    ]

pub one_of_id : (items : List Item) (item other : Item) → are_rising (ids_of items) ≡ true → Contains items item
    → Contains items other → item.id ≡ other.id → item ≡ other
one_of_id items = one_between None items

-- an item of the list is the one of its id
pub member : (items : List Item) (item : Item) → are_rising (ids_of items) ≡ true → Contains items item
    → item_of items item.id ≡ Some item
member items item rise c = by (item_of items item.id) refl
  where
    by : (o : Option Item) → item_of items item.id ≡ o → o ≡ Some item
    by None h = absurd (found_none items item.id item h c refl)
    by (Some other) h = let f = found items item.id other h in ap Some (one_of_id items other item rise f.0 c f.1)

-- ---- what holds of each item of one list at the same place as of the other
rising_tail : (a : Option (List ℕ)) (x : Item) (items : List Item) → rise_between a None (ids_of (x ∷ items)) ≡ true
    → rise_between (Some x.id) None (ids_of items) ≡ true
rising_tail a x items h = (and_parts (ends_rise a (Some x.id)) (rise_between (Some x.id) None (ids_of items)) h).1

-- Each item of the list has one of its id in the other list that is alike.
abbrev pub HasAlike : (Item → Item → Type 0) → List Item → List Item → Type 0
HasAlike R items others =
    (item : Item) → Contains items item → (other : Item) × Contains others other × (other.id ≡ item.id) × R item other

-- the tails of such lists are such lists
tails : (R : Item → Item → Type 0) (x y : Item) (xs ys : List Item) → rise_between (Some x.id) None (ids_of xs) ≡ true
    → x.id ≡ y.id → HasAlike R (x ∷ xs) (y ∷ ys) → HasAlike R xs ys
tails R x y xs ys rise same alike item c =
    let r = alike item (Contains-cons x xs item c) in
    elim (Contains-cases y ys r.0 r.1) [
      | inl first ↦ absurd (less-other x.id item.id (above x.id None xs item rise c) (same
          ∙ (ap (λ (z : Item). z.id) first ∙ r.2)))
      | inr later ↦ (r.0, later, r.2, r.3)
    ]

-- the first ids are the same
heads : (R S : Item → Item → Type 0) (x y : Item) (xs ys : List Item) → rise_between (Some x.id) None (ids_of xs) ≡ true
    → rise_between (Some y.id) None (ids_of ys) ≡ true → HasAlike R (x ∷ xs) (y ∷ ys) → HasAlike S (y ∷ ys) (x ∷ xs)
    → x.id ≡ y.id
heads R S x y xs ys h k alike back =
    let r = alike x (Contains-head x xs) in
    let s = back y (Contains-head y ys) in
    elim (Contains-cases y ys r.0 r.1) [
      | inl first ↦ sym (ap (λ (z : Item). z.id) first ∙ r.2)
      | inr later ↦ elim (Contains-cases x xs s.0 s.1) [
        | inl first ↦ ap (λ (z : Item). z.id) first ∙ s.2
        | inr also ↦ absurd (less-less x.id y.id
            (subst (λ id. bytes_less x.id id ≡ true) s.2 (above x.id None xs s.0 h also))
            (subst (λ id. bytes_less y.id id ≡ true) r.2 (above y.id None ys r.0 k later)))
      ]
    ]

-- Two lists whose ids rise, of which each has to each item of the other one of its id, have the same texts where such
-- items have.
pub same_along : {X : Type 0} (f : Item → X) (R : Item → Item → Type 0) → ((x y : Item) → R x y → f x ≡ f y)
    → (a b : Option (List ℕ)) (xs ys : List Item)
    → rise_between a None (ids_of xs) ≡ true → rise_between b None (ids_of ys) ≡ true → HasAlike R xs ys
    → HasAlike (λ y x. R x y) ys xs → map f xs ≡ map f ys
same_along f R told a b [] [] h k alike back = refl
same_along f R told a b [] (y ∷ ys) h k alike back =
    absurd (let r = back y (Contains-head y ys) in omega (arith, r.1.1))
same_along f R told a b (x ∷ xs) [] h k alike back =
    absurd (let r = alike x (Contains-head x xs) in omega (arith, r.1.1))
same_along f R told a b (x ∷ xs) (y ∷ ys) h k alike back =
    let h' = rising_tail a x xs h in
    let k' = rising_tail b y ys k in
    let same = heads R (λ y x. R x y) x y xs ys h' k' alike back in
    let r = alike x (Contains-head x xs) in
    let first : R x y = elim (Contains-cases y ys r.0 r.1) [
      | inl e ↦ subst (λ z. R x z) (sym e) r.3
      | inr later ↦ absurd (less-other y.id r.0.id (above y.id None ys r.0 k' later) (sym (r.2 ∙ same)))
    ] in
    ap₂ (λ z zs. z ∷ zs) (told x y first)
    (same_along f R told (Some x.id) (Some y.id) xs ys h' k' (tails R x y xs ys h' same alike)
    (tails (λ y x. R x y) y x ys xs k' (sym same) back))
