-- The first occurrences of entries.
use Rattle.std.proofs.Common.{◌≡◌, Bool, true, false, not, cond, ◌&&◌, ◌||◌, List, [], ◌∷◌, ◌++◌, filter, bytes_eq, refl, sym, ap, ◌∙◌, inl, inr, append-nil, append_assoc}
use Rattle.std.specs.List.{list_any, list_all}
use Rattle.std.proofs.lemmas.Bool.{and_parts, and_from, or_left, not_from_true, not_from_false, both_ways, cases_Bool, cond-true, cond-false, false_from_ne_true}
use Rattle.std.proofs.lemmas.List.Elements.{filter-append, filter_agree}
use Rattle.std.proofs.lemmas.Slice.Eq.{bytes_eq-Decides}
use Rattle.elem.specs.declared.kind.Role.{Role}
use Rattle.elem.specs.declared.kind.Role.TheVariants.{Arrow, Text}
use Rattle.elem.specs.declared.parts.BoundRef.{BoundRef}
use Rattle.elem.specs.Listings.{same_listing_entry, same_role}
use Rattle.links.specs.Entries.{lists, first_entries}
use Rattle.links.specs.Tables.{with_listing_entry}
use Rattle.links.specs.inner.Tables.{with_entries}

-- ---- when entries are the same
same_role-true : (r s : Role) → same_role r s ≡ true → r ≡ s
same_role-true Arrow Arrow h = refl
same_role-true Arrow Text h = cc
same_role-true Text Arrow h = cc
same_role-true Text Text h = refl

same_role-refl : (r : Role) → same_role r r ≡ true
same_role-refl Arrow = refl
same_role-refl Text = refl

pub same_listing_entry-true : (x y : BoundRef) → same_listing_entry x y ≡ true → x ≡ y
same_listing_entry-true x y h =
    let p = and_parts (same_role x.role y.role) (bytes_eq x.id y.id) h in
    let role = same_role-true x.role y.role p.0 in
    let id = (bytes_eq-Decides x.id y.id).0 p.1 in
    λ i. record { id = id i; role = role i }

pub same_listing_entry-refl : (x : BoundRef) → same_listing_entry x x ≡ true
same_listing_entry-refl x = and_from (same_role x.role x.role) (bytes_eq x.id x.id) (same_role-refl x.role)
    ((bytes_eq-Decides x.id x.id).1 refl)

same_listing_entry-from : (x y : BoundRef) → x ≡ y → same_listing_entry x y ≡ true
same_listing_entry-from x y e = ap (same_listing_entry x) (sym e) ∙ same_listing_entry-refl x

-- ---- lists and filters
filter-filter : {X : Type 0} (p q : X → Bool) (xs : List X) → filter p (filter q xs) ≡ filter (λ x. q x && p x) xs
filter-filter p q [] = refl
filter-filter p q (x ∷ xs) =
    elim (q x) as (λ b. filter p (cond b (x ∷ filter q xs) (filter q xs))
    ≡ cond (b && p x) (x ∷ filter (λ x. q x && p x) xs) (filter (λ x. q x && p x) xs)) [
      | true ↦ ap (λ ys. cond (p x) (x ∷ ys) ys) (filter-filter p q xs)
      | false ↦ filter-filter p q xs
    ]

and-comm : (a b : Bool) → (a && b) ≡ (b && a)
and-comm true true = refl
and-comm true false = refl
and-comm false true = refl
and-comm false false = refl

filter-comm : {X : Type 0} (p q : X → Bool) (xs : List X) → filter p (filter q xs) ≡ filter q (filter p xs)
filter-comm p q xs =
    filter-filter p q xs ∙ filter_agree (λ x. q x && p x) (λ x. p x && q x) (λ x. and-comm (q x) (p x)) xs
    ∙ sym (filter-filter q p xs)

and-itself : (a : Bool) → (a && a) ≡ a
and-itself true = refl
and-itself false = refl

filter-twice : {X : Type 0} (p : X → Bool) (xs : List X) → filter p (filter p xs) ≡ filter p xs
filter-twice p xs = filter-filter p p xs ∙ filter_agree (λ x. p x && p x) p (λ x. and-itself (p x)) xs

abbrev is_other_entry : BoundRef → BoundRef → Bool
is_other_entry x y = not (same_listing_entry x y)

-- a test that fails at an entry fails at all that are the same
skips : (p : BoundRef → Bool) (x : BoundRef) → p x ≡ false → (z : BoundRef) → (is_other_entry x z && p z) ≡ p z
skips p x h z =
    elim (cases_Bool (same_listing_entry x z)) [
      | inl t ↦ let fails : p z ≡ false = ap p (sym (same_listing_entry-true x z t)) ∙ h in
          ap (λ b. is_other_entry x z && b) fails ∙ and_false (is_other_entry x z) ∙ sym fails
      | inr f ↦ ap (λ b. not b && p z) f
    ]
  where
    and_false : (a : Bool) → (a && false) ≡ false
    and_false true = refl
    and_false false = refl

-- ---- what the first occurrences are
pub first_entries-filter : (p : BoundRef → Bool) (xs : List BoundRef)
    → first_entries (filter p xs) ≡ filter p (first_entries xs)
first_entries-filter p [] = refl
first_entries-filter p (x ∷ xs) =
    elim (cases_Bool (p x)) [
      | inl t ↦ ap first_entries (cond-true (p x) (x ∷ filter p xs) (filter p xs) t)
          ∙ ap (λ ys. x ∷ filter (is_other_entry x) ys) (first_entries-filter p xs)
          ∙ ap (λ ys. x ∷ ys) (filter-comm (is_other_entry x) p (first_entries xs))
          ∙ sym (cond-true (p x) (x ∷ filter p (filter (is_other_entry x) (first_entries xs))) _ t)
      | inr f ↦ ap first_entries (cond-false (p x) (x ∷ filter p xs) (filter p xs) f)
          ∙ first_entries-filter p xs
          ∙ sym (filter-filter p (is_other_entry x) (first_entries xs)
          ∙ filter_agree (λ z. is_other_entry x z && p z) p (skips p x f) (first_entries xs))
          ∙ sym (cond-false (p x) _ (filter p (filter (is_other_entry x) (first_entries xs))) f)
    ]

pub first_entries-twice : (xs : List BoundRef) → first_entries (first_entries xs) ≡ first_entries xs
first_entries-twice [] = refl
first_entries-twice (x ∷ xs) =
    ap (λ ys. x ∷ filter (is_other_entry x) ys) (first_entries-filter (is_other_entry x) (first_entries xs))
    ∙ ap (λ ys. x ∷ ys) (filter-twice (is_other_entry x) (first_entries (first_entries xs)))
    ∙ ap (λ ys. x ∷ filter (is_other_entry x) ys) (first_entries-twice xs)

-- a test finds the same among first occurrences
list_any-others : (p : BoundRef → Bool) (x : BoundRef) (xs : List BoundRef)
    → (p x || list_any p (filter (is_other_entry x) xs)) ≡ (p x || list_any p xs)
list_any-others p x [] = refl
list_any-others p x (y ∷ ys) =
    elim (cases_Bool (same_listing_entry x y)) [
      | inl t ↦ ap (λ zs. p x || list_any p zs) (cond-false (is_other_entry x y) (y ∷ filter (is_other_entry x) ys)
          (filter (is_other_entry x) ys) (not_from_true _ t))
          ∙ list_any-others p x ys ∙ absorb (p x) (p y) (list_any p ys) (ap p (same_listing_entry-true x y t))
      | inr f ↦ ap (λ zs. p x || list_any p zs) (cond-true (is_other_entry x y) (y ∷ filter (is_other_entry x) ys)
          (filter (is_other_entry x) ys) (not_from_false _ f))
          ∙ swap' (p x) (p y) (list_any p (filter (is_other_entry x) ys)) ∙ ap (λ b. p y || b) (list_any-others p x ys)
          ∙ sym (swap' (p x) (p y) (list_any p ys))
    ]
  where
    absorb : (a b d : Bool) → a ≡ b → (a || d) ≡ (a || (b || d))
    absorb true b d e = refl
    absorb false true d e = cc
    absorb false false d e = refl

    swap' : (a b d : Bool) → (a || (b || d)) ≡ (b || (a || d))
    swap' true true d = refl
    swap' true false d = refl
    swap' false true d = refl
    swap' false false d = refl

pub list_any-first_entries : (p : BoundRef → Bool) (xs : List BoundRef) → list_any p (first_entries xs) ≡ list_any p xs
list_any-first_entries p [] = refl
list_any-first_entries p (x ∷ xs) =
    list_any-others p x (first_entries xs) ∙ ap (λ b. p x || b) (list_any-first_entries p xs)

-- ---- one more entry
lists-others : (x y : BoundRef) (xs : List BoundRef) → same_listing_entry x y ≡ false
    → lists (filter (is_other_entry y) xs) x ≡ lists xs x
lists-others x y xs f =
    ap (λ b. b || lists (filter (is_other_entry y) xs) x) (sym (apart f)) ∙ list_any-others (same_listing_entry x) y xs
    ∙ ap (λ b. b || lists xs x) (apart f)
  where
    apart : same_listing_entry x y ≡ false → same_listing_entry x y ≡ false
    apart h = h

same_listing_entry-sym : (x y : BoundRef) → same_listing_entry x y ≡ true → same_listing_entry y x ≡ true
same_listing_entry-sym x y h = same_listing_entry-from y x (sym (same_listing_entry-true x y h))

filter-one : (p : BoundRef → Bool) (x : BoundRef) (xs : List BoundRef) (b : Bool) → p x ≡ b
    → filter p (xs ++ x ∷ []) ≡ filter p xs ++ cond b (x ∷ []) []
filter-one p x xs b h = filter-append p xs (x ∷ []) ∙ ap (λ d. filter p xs ++ cond d (x ∷ []) []) h

pub first_entries-push : (xs : List BoundRef) (x : BoundRef)
    → first_entries (xs ++ x ∷ []) ≡ with_listing_entry (first_entries xs) x
first_entries-push [] x = refl
first_entries-push (y ∷ xs) x =
    ap (λ ys. y ∷ filter (is_other_entry y) ys) (first_entries-push xs x)
    ∙ elim (cases_Bool (same_listing_entry x y)) [
      | inl t ↦
          ap (λ ys. y ∷ ys) (elim (lists (first_entries xs) x) as
          (λ b. filter (is_other_entry y) (cond b (first_entries xs) (first_entries xs ++ x ∷ []))
          ≡ filter (is_other_entry y) (first_entries xs)) [
            | true ↦ refl
            | false ↦ filter-one (is_other_entry y) x (first_entries xs) false
                (not_from_true _ (same_listing_entry-sym x y t))
                ∙ append-nil (filter (is_other_entry y) (first_entries xs))
          ])
          ∙ sym (cond-true (lists (y ∷ filter (is_other_entry y) (first_entries xs)) x) _ _
          (or_left (same_listing_entry x y) (lists (filter (is_other_entry y) (first_entries xs)) x) t))
      | inr f ↦
          let apart : is_other_entry y x ≡ true =
          not_from_false _ (false_from_ne_true (same_listing_entry y x)
          (λ h. both_ways (same_listing_entry x y) f (same_listing_entry-sym y x h))) in
          let here : lists (y ∷ filter (is_other_entry y) (first_entries xs)) x ≡ lists (first_entries xs) x =
          ap (λ b. b || lists (filter (is_other_entry y) (first_entries xs)) x) f
          ∙ lists-others x y (first_entries xs) f in
          (elim (lists (first_entries xs) x) as
          (λ b. y ∷ filter (is_other_entry y) (cond b (first_entries xs) (first_entries xs ++ x ∷ []))
          ≡ cond b (y ∷ filter (is_other_entry y) (first_entries xs)) (y ∷ filter (is_other_entry y) (first_entries xs)
          ++ x ∷ [])) [
            | true ↦ refl
            | false ↦ ap (λ ys. y ∷ ys) (filter-one (is_other_entry y) x (first_entries xs) true apart)
          ])
          ∙ ap (λ b. cond b (y ∷ filter (is_other_entry y) (first_entries xs))
          ((y ∷ filter (is_other_entry y) (first_entries xs)) ++ x ∷ [])) (sym here)
    ]

pub with_entries-first : (xs ys : List BoundRef) → with_entries (first_entries xs) ys ≡ first_entries (xs ++ ys)
with_entries-first xs [] = ap first_entries (sym (append-nil xs))
with_entries-first xs (y ∷ ys) =
    ap (λ zs. with_entries zs ys) (sym (first_entries-push xs y)) ∙ with_entries-first (xs ++ y ∷ []) ys
    ∙ ap first_entries (append_assoc xs (y ∷ []) ys)

pub with_entries-push : (entries xs : List BoundRef) (x : BoundRef)
    → with_entries entries (xs ++ x ∷ []) ≡ with_listing_entry (with_entries entries xs) x
with_entries-push entries [] x = refl
with_entries-push entries (y ∷ xs) x = with_entries-push (with_listing_entry entries y) xs x

-- entries that are listed add nothing
pub with_entries-listed : (entries xs : List BoundRef) → list_all (lists entries) xs ≡ true
    → with_entries entries xs ≡ entries
with_entries-listed entries [] h = refl
with_entries-listed entries (x ∷ xs) h =
    let p = and_parts (lists entries x) (list_all (lists entries) xs) h in
    ap (λ zs. with_entries zs xs) (cond-true (lists entries x) entries (entries ++ x ∷ []) p.0)
    ∙ with_entries-listed entries xs p.1

pub first_entries-again : (xs ys : List BoundRef) → list_all (lists (first_entries xs)) ys ≡ true
    → first_entries (first_entries xs ++ ys) ≡ first_entries xs
first_entries-again xs ys h =
    sym (with_entries-first (first_entries xs) ys) ∙ ap (λ zs. with_entries zs ys) (first_entries-twice xs)
    ∙ with_entries-listed (first_entries xs) ys h
