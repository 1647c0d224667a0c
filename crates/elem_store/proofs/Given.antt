-- The elements as they came are those in the order of their ids.
use Rattle.std.proofs.Common.{◌≡◌, ℕ, ◌<◌, ◌≤◌, false, List, ◌∷◌, length, get_or, Contains, sym, ap, subst, ◌∙◌, inl, inr, arith}
use Rattle.std.specs.List.{IsDistinct, list_any}
use Rattle.std.proofs.Math.Dec.{eqb}
use Rattle.std.proofs.lemmas.Bool.{eqb-true, cases_Bool, false_from_ne_true, both_ways}
use Rattle.std.proofs.lemmas.List.Elements.{All-cons, recursion_from_All}
use Rattle.std.proofs.lemmas.List.Folds.{list_any_at}
use Rattle.std.proofs.lemmas.Map.Keys.{IsDistinct-from_apart}
use Rattle.std.proofs.lemmas.Map.Steps.{length-le_from_distinct_below}
use Rattle.std.proofs.lemmas.Map.Views.{Contains-from_any}
use Rattle.elem.specs.ElementValue.{ElementValue}
use Rattle.elem_store.specs.Places.{elements_at, AreInOrder}
use Rattle.elem_store.proofs.Placed.{read-at, length-at, places_differ}

module _ (elements : List ElementValue) (places : List ℕ) (o : AreInOrder elements places) where
  apart : IsDistinct eqb places
  apart = IsDistinct-from_apart eqb places (λ i j d l m.
      false_from_ne_true (eqb (get_or places i d) (get_or places j d)) (λ same.
      places_differ elements places o i j d (omega (arith, l, m)) m (λ is. omega (arith, l, is))
      (sym (eqb-true (get_or places i d) (get_or places j d) same))))

  -- with one that isn't among them the places would be more than there are elements
  one_more : (k : ℕ) → k < length elements → list_any (eqb k) places ≡ false → length (k ∷ places) ≤ length elements
  unfolding IsDistinct
  one_more k l none =
      length-le_from_distinct_below (k ∷ places) (length elements) (
        recursion_from_All (λ other. eqb k other ≡ false) places
            (λ i d m. false_from_ne_true (eqb k (get_or places i d))
            (λ same. both_ways (list_any (eqb k) places) none (list_any_at (eqb k) places i d m same))),
        apart,
      )
      (λ q there.
      let (j, m, is) = Contains-from_any {eq = eqb} eqb-true q (k ∷ places) there in
      subst (λ p. p < length elements) is (All-cons (λ p. p < length elements) k places l o.within j q m))

  covered : (k : ℕ) → k < length elements → Contains places k
  covered k l =
      elim (cases_Bool (list_any (eqb k) places)) [
        | inl there ↦ Contains-from_any {eq = eqb} eqb-true k places there
        | inr none ↦ absurd (omega (arith, one_more k l none, o.full))
      ]

  pub given-stored : (e : ElementValue) → Contains elements e → Contains (elements_at elements places) e
  given-stored e (k, l, is) =
      let (i, m, at') = covered k l in (
        i,
        omega (arith, m, length-at elements places o.within),
        read-at elements places o.within i k e m
            ∙ ap (λ place. get_or elements place e) at' ∙ is,
      )

  pub stored-given : (e : ElementValue) → Contains (elements_at elements places) e → Contains elements e
  stored-given e (i, l, is) =
      let m : i < length places = omega (arith, l, length-at elements places o.within) in
      (get_or places i 0, o.within i 0 m, sym (read-at elements places o.within i 0 e m) ∙ is)
