-- The live elements of a store after a change of one element.
use Rattle.std.proofs.Common.{◌≡◌, ℕ, ◌<◌, ◌≤◌, true, false, cond, ◌&&◌, List, [], ◌∷◌, length, get_or, Option, Some, None, bytes_eq, refl, sym, ap, ◌∙◌, inl, inr, arith}
use Rattle.std.proofs.lemmas.Bool.{cases_Bool, and_parts}
use Rattle.frac_keys.specs.Rising.{ends_rise, rise_between, are_rising}
use Rattle.elem.specs.ElementValue.{ElementValue}
use Rattle.elem.specs.Order.{has_id}
use Rattle.elem_store.specs.Updates.{element_of, ids_of, is_taken, HasTaken}
use Rattle.elem_store.proofs.CallerLemmas.{same_id, of_itself, find-Some, none_above}
use Rattle.undo_model.specs.Carrying.{with_put, taken}
use Rattle.kept_view.specs.Changes.{AreSameButAt}
use Rattle.kept_view.specs.inner.Changes.{HasRedrawn}
use Rattle.view.specs.Shown.{is_live, live_elements}
use Rattle.view.proofs.CallerLemmas.{live_elements-rise}
use Rattle.kept_view.proofs.Redrawn.{all-redrawn}

-- an element, if it is live
abbrev pub if_live : Option ElementValue → Option ElementValue
if_live None = None
if_live (Some e) = cond (is_live e) (Some e) None

pub live-is : (e : ElementValue) → is_live e ≡ true → if_live (Some e) ≡ Some e
live-is e is = ap (λ b. cond b (Some e) None) is

pub element-live : (low : Option (List ℕ)) (es : List ElementValue) (id : List ℕ)
    → rise_between low None (ids_of es) ≡ true → element_of (live_elements es) id ≡ if_live (element_of es id)
element-live low [] id rise = refl
element-live low (e ∷ es) id rise =
    let later = (and_parts (ends_rise low (Some e.id)) (rise_between (Some e.id) None (ids_of es)) rise).1 in
    let rest = element-live (Some e.id) es id later in
    elim (cases_Bool (has_id id e)) [
      | inl own ↦
          let none : element_of es id ≡ None = ap (element_of es) (same_id id e own) ∙ none_above e.id None es later in
          elim (cases_Bool (is_live e)) [
            | inl live ↦ rw (live, own, live) refl
            | inr deleted ↦ rw (deleted, own, deleted) (rest ∙ ap if_live none)
          ]
      | inr other ↦ elim (cases_Bool (is_live e)) [
        | inl live ↦ rw (live, other) rest
        | inr deleted ↦ rw (deleted, other) rest
      ]
    ]

-- ---- the store takes one element
pub not-taken : (e : ElementValue) (stored : List ElementValue) → is_taken stored e ≡ false → taken e stored ≡ stored
not-taken e stored stays = ap (λ b. cond b (with_put e stored) stored) stays

module _ (elements stored : List ElementValue) (e : ElementValue) (rising : are_rising (ids_of elements) ≡ true)
    (has : HasTaken elements e stored) where
  at_own : is_taken elements e ≡ true → element_of stored e.id ≡ Some e
  at_own takes =
      has.each e.id
      ∙ (ap (λ b. cond (b && is_taken elements e) (Some e) (element_of elements e.id)) (of_itself e)
      ∙ ap (λ b. cond b (Some e) (element_of elements e.id)) takes)

  at_others : (id : List ℕ) → has_id id e ≡ false → element_of stored id ≡ element_of elements id
  at_others id other = has.each id ∙ ap (λ b. cond (b && is_taken elements e) (Some e) (element_of elements id)) other

  pub taken-redrawn : (new_live : List ElementValue) → is_taken elements e ≡ true
      → HasRedrawn (live_elements elements) e new_live → new_live ≡ live_elements stored
  taken-redrawn new_live takes drawn =
      all-redrawn (live_elements elements) (live_elements stored) new_live e (live_elements-rise stored has.ordered)
      drawn
      (element-live None stored e.id has.ordered ∙ (ap if_live (at_own takes) ∙ live-is e drawn.is_live))
      (λ id other. element-live None elements id rising
      ∙ (ap if_live (sym (at_others id other)) ∙ sym (element-live None stored id has.ordered)))

-- ---- the live elements differ at one id
pub updated-redrawn : (elements live new_live : List ElementValue) (e : ElementValue) (id : List ℕ)
    → are_rising (ids_of elements) ≡ true → AreSameButAt (id ∷ []) live (live_elements elements)
    → element_of elements id ≡ Some e → HasRedrawn live e new_live → new_live ≡ live_elements elements
updated-redrawn elements live new_live e id rising same found has =
    let named : id ≡ e.id = same_id id e (find-Some (has_id id) elements e found).1 in
    all-redrawn live (live_elements elements) new_live e (live_elements-rise elements rising) has
    (element-live None elements e.id rising ∙ (ap if_live (ap (element_of elements) (sym named) ∙ found)
    ∙ live-is e has.is_live))
    (λ other ne. same other (rw (ap (bytes_eq other) named ∙ ne) refl))

-- ---- a list of one item
pub one_item : {X : Type 0} (xs : List X) (x : X) → 1 ≤ length xs → length xs < 2 → x ≡ get_or xs 0 x → xs ≡ x ∷ []
one_item [] x some few is = absurd (omega arith)
one_item (y ∷ []) x some few is = ap (λ z. z ∷ []) (sym is)
one_item (y ∷ z ∷ xs) x some few is = absurd (omega arith)
