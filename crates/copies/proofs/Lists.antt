-- Which ids are among elements.
use Rattle.std.proofs.Common.{◌≡◌, ℕ, true, false, ◌||◌, List, [], ◌∷◌, ◌++◌, Contains, map, bytes_eq, sym, ap, ◌∙◌, inl, inr, arith}
use Rattle.std.specs.List.{IsDistinct, AllByRecursion}
use Rattle.std.proofs.lemmas.Bool.{false≢true, cases_Bool}
use Rattle.std.proofs.lemmas.List.{append_cancel_left}
use Rattle.std.proofs.Math.Bool.{or-true}
use Rattle.json_text.proofs.CallerLemmas.{bytes_eq-apart, bytes_eq-same}
use Rattle.elem.specs.ElementValue.{ElementValue}
use Rattle.elem.specs.Order.{has_id}
use Rattle.elem_store.proofs.CallerLemmas.{Contains-cases, Contains-cons, Contains-head, of_itself, same_id}
use Rattle.copies.specs.Copies.{is_among}

-- ---- ids among elements
pub among-is : (xs : List ElementValue) (id : List ℕ) → is_among xs id ≡ true → (other : ElementValue)
    × Contains xs other × (other.id ≡ id)
among-is [] id h = absurd (false≢true h)
among-is (x ∷ xs) id h =
    elim (cases_Bool (has_id id x)) [
      | inl t ↦ (x, Contains-head x xs, sym (same_id id x t))
      | inr f ↦ let r =
          among-is xs id (sym (ap (λ b. b || is_among xs id) f) ∙ h) in (r.0, Contains-cons x xs r.0 r.1, r.2)
    ]

pub is-among : (xs : List ElementValue) (other : ElementValue) → Contains xs other → is_among xs other.id ≡ true
is-among [] other c = absurd (omega (arith, c.1))
is-among (x ∷ xs) other c =
    elim (Contains-cases x xs other c) [
      | inl e ↦ ap (λ b. b || is_among xs other.id) (ap (λ (y : ElementValue). has_id other.id y) e ∙ of_itself other)
      | inr r ↦ ap (λ b. has_id other.id x || b) (is-among xs other r) ∙ or-true (has_id other.id x)
    ]

-- ---- names under a prefix
apart-under : (prefix x : List ℕ) (ys : List (List ℕ)) → AllByRecursion (λ y. bytes_eq x y ≡ false) ys
    → AllByRecursion (λ y. bytes_eq (prefix ++ x) y ≡ false) (map (λ y. prefix ++ y) ys)
apart-under prefix x [] all = tt
apart-under prefix x (y ∷ ys) all = (
  bytes_eq-apart (prefix ++ x) (prefix ++ y)
      (λ e. false≢true (sym all.0 ∙ (ap (bytes_eq x) (sym (append_cancel_left prefix x y e)) ∙ bytes_eq-same x))),
  apart-under prefix x ys all.1,
)

pub distinct-under : (prefix : List ℕ) (xs : List (List ℕ)) → IsDistinct bytes_eq xs
    → IsDistinct bytes_eq (map (λ x. prefix ++ x) xs)
unfolding IsDistinct
distinct-under prefix [] d = tt
distinct-under prefix (x ∷ xs) d = (apart-under prefix x xs d.0, distinct-under prefix xs d.1)
