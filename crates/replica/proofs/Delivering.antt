-- A delivery of which nothing becomes stored leaves the state as it is.
use Rattle.std.proofs.Common.{◌≡◌, true, List, [], ◌∷◌, ◌++◌, inl, inr, refl, sym, ap, ◌∙◌}
use Rattle.std.proofs.lemmas.Bool.{cases_Bool, cond-true, cond-false}
use Rattle.frac_keys.specs.Rising.{are_rising}
use Rattle.elem.specs.ElementValue.{ElementValue}
use Rattle.elem_store.specs.Updates.{Taking, stored_of, ids_of, is_newer, is_taken, takings, AreStored}
use Rattle.elem_store.proofs.CallerLemmas.{AreStored-itself, AreStored-push}
use Rattle.reconcile.specs.Ids.{free_elements}
use Rattle.undo_model.specs.Carrying.{with_put, taken, taken_all, carried_all}
use Rattle.undo_model.proofs.CallerLemmas.{taken-has}
use Rattle.replica.specs.State.{State, after_delivery}

some-not_none : {X : Type 0} (x : X) (xs ys : List X) → ys ≡ x ∷ xs → ys ≡ [] → ⊥
some-not_none x xs ys some none = absurd (cc)

none-taken : (updates stored list : List ElementValue) → AreStored updates stored → takings updates list ≡ []
    → taken_all list stored ≡ stored
none-taken updates stored [] are none = refl
none-taken updates stored (e ∷ list) are none =
    let newer = is_newer e (stored_of updates e.id) in
    let taking : Taking = record { before = stored_of updates e.id; taken = e } in
    let rest = takings (updates ++ e ∷ []) list in
    elim (cases_Bool newer) [
      | inl t ↦ absurd (some-not_none taking rest (takings updates (e ∷ list)) (cond-true newer (taking ∷ rest) rest t)
          none)
      | inr f ↦
          let stays : taken e stored ≡ stored =
          cond-false (is_taken stored e) (with_put e stored) stored (ap (is_newer e) (are.each e.id) ∙ f) in
          none-taken (updates ++ e ∷ []) (taken e stored) list
          (AreStored-push updates stored (taken e stored) e are (taken-has stored e are.ordered))
          (sym (cond-false newer (taking ∷ rest) rest f) ∙ none)
          ∙ stays
    ]

pub empty-stays : (s : State) (list : List ElementValue) → are_rising (ids_of s.stored) ≡ true
    → takings s.stored (free_elements s.held list) ≡ [] → after_delivery list s ≡ s
empty-stays s list rise none =
    let same = none-taken s.stored s.stored (free_elements s.held list) (AreStored-itself s.stored rise) none in
    λ i. record s { stored = same i; snapshot = carried_all (none i) s.snapshot }
