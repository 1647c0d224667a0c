-- What a test finds among some of the elements of a list: the same as in all of it, where those that pass it are among
-- these.
use Rattle.std.proofs.Common.{◌≡◌, ℕ, zero, suc, Bool, true, false, cond, ◌&&◌, List, [], ◌∷◌, find, filter, map, Some, Contains, bytes_eq, refl, sym, ap, ◌∙◌, subst, inl, inr, arith}
use Rattle.std.specs.List.{list_any, AllByRecursion, IsDistinct}
use Rattle.std.proofs.lemmas.Bool.{both_ways, cases_Bool, cond-true, cond-false, false_from_ne_true}
use Rattle.elem.specs.ElementValue.{ElementValue}
use Rattle.elem.specs.Order.{HaveDistinctIds}
use Rattle.links.specs.Names.{id_of}
use Rattle.links.proofs.Members.{list_any-same, Contains-head, Contains-cons}
use Rattle.links.proofs.Tabled.{list_any-filter}

module _ {X : Type 0} (p q : X → Bool) where
  -- each element that passes q passes p
  abbrev pub Has : List X → Type 0
  Has xs = (x : X) → Contains xs x → q x ≡ true → p x ≡ true

  rest : (x : X) (xs : List X) → Has (x ∷ xs) → Has xs
  rest x xs h y c = h y (Contains-cons x xs y c)

  fails : (x : X) (xs : List X) → Has (x ∷ xs) → p x ≡ false → q x ≡ false
  fails x xs h f = false_from_ne_true (q x) (λ t. both_ways (p x) f (h x (Contains-head x xs) t))

  pub find-among : (xs : List X) → Has xs → find q (filter p xs) ≡ find q xs
  find-among [] h = refl
  find-among (x ∷ xs) h =
      elim (cases_Bool (p x)) [
        | inl t ↦ ap (find q) (cond-true (p x) (x ∷ filter p xs) (filter p xs) t)
            ∙ ap (λ o. cond (q x) (Some x) o) (find-among xs (rest x xs h))
        | inr f ↦ ap (find q) (cond-false (p x) (x ∷ filter p xs) (filter p xs) f) ∙ find-among xs (rest x xs h)
            ∙ sym (cond-false (q x) (Some x) (find q xs) (fails x xs h f))
      ]

  pub filter-among : (xs : List X) → Has xs → filter q (filter p xs) ≡ filter q xs
  filter-among [] h = refl
  filter-among (x ∷ xs) h =
      elim (cases_Bool (p x)) [
        | inl t ↦ ap (filter q) (cond-true (p x) (x ∷ filter p xs) (filter p xs) t)
            ∙ ap (λ ys. cond (q x) (x ∷ ys) ys) (filter-among xs (rest x xs h))
        | inr f ↦ ap (filter q) (cond-false (p x) (x ∷ filter p xs) (filter p xs) f) ∙ filter-among xs (rest x xs h)
            ∙ sym (cond-false (q x) (x ∷ filter q xs) (filter q xs) (fails x xs h f))
      ]

  pub any-among : (xs : List X) → Has xs → list_any q (filter p xs) ≡ list_any q xs
  any-among xs h =
      list_any-filter p q xs
      ∙ list_any-same (λ x. p x && q x) q xs (λ x c. both (p x) (q x) (h x c))
    where
      both : (a b : Bool) → (b ≡ true → a ≡ true) → (a && b) ≡ b
      both true b h = refl
      both false true h = h refl
      both false false h = refl

  pub Contains-among : (xs : List X) (x : X) → Contains xs x → p x ≡ true → Contains (filter p xs) x
  Contains-among [] x c t = absurd (omega (arith, c.1))
  Contains-among (y ∷ xs) x (zero, l, e) t =
      subst (λ ys. Contains ys x) (sym (cond-true (p y) (y ∷ filter p xs) (filter p xs) (ap p e ∙ t))) (
        0,
        omega arith,
        e,
      )
  Contains-among (y ∷ xs) x (suc k, l, e) t =
      elim (p y) as (λ b. Contains (cond b (y ∷ filter p xs) (filter p xs)) x) [
        | true ↦ Contains-cons y (filter p xs) x (Contains-among xs x (k, omega arith, e) t)
        | false ↦ Contains-among xs x (k, omega arith, e) t
      ]

-- two truths that are the same where a third one holds
pub and-same : (a b n : Bool) → (n ≡ true → a ≡ b) → (a && n) ≡ (b && n)
and-same a b true h = ap (λ x. x && true) (h refl)
and-same true true false h = refl
and-same true false false h = refl
and-same false true false h = refl
and-same false false false h = refl

pub same-and : (n a b : Bool) → (n ≡ true → a ≡ b) → (n && a) ≡ (n && b)
same-and true a b h = h refl
same-and false a b h = refl

-- ---- ids stay distinct
apart-filter : (id : List ℕ) (p : ElementValue → Bool) (es : List ElementValue)
    → AllByRecursion (λ other. bytes_eq id other ≡ false) (map id_of es)
    → AllByRecursion (λ other. bytes_eq id other ≡ false) (map id_of (filter p es))
apart-filter id p [] h = tt
apart-filter id p (e ∷ es) h =
    elim (p e) as (λ b. AllByRecursion (λ other. bytes_eq id other ≡ false)
    (map id_of (cond b (e ∷ filter p es) (filter p es)))) [
      | true ↦ (h.0, apart-filter id p es h.1)
      | false ↦ apart-filter id p es h.1
    ]

pub distinct-among : (p : ElementValue → Bool) (es : List ElementValue) → HaveDistinctIds es
    → HaveDistinctIds (filter p es)
unfolding IsDistinct
distinct-among p [] h = tt
distinct-among p (e ∷ es) h =
    elim (p e) as (λ b. IsDistinct bytes_eq (map id_of (cond b (e ∷ filter p es) (filter p es)))) [
      | true ↦ (apart-filter e.id p es h.0, distinct-among p es h.1)
      | false ↦ distinct-among p es h.1
    ]
