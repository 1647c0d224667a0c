-- A change that nobody captures leaves a snapshot that is what is stored but for stamps such a one.
use Rattle.std.proofs.Common.{◌≡◌, ℕ, Bool, true, false, cond, List, [], ◌∷◌, map, Option, Some, None, IfSome, inl, inr, refl, sym, ap, ◌∙◌, subst}
use Rattle.std.specs.Option.{option_map}
use Rattle.std.proofs.lemmas.Bool.{cases_Bool, cond_both, cond-true, cond-false}
use Rattle.std.proofs.lemmas.Option.{none-some, same_Some}
use Rattle.std.proofs.lemmas.List.Elements.{All-head, All-tail}
use Rattle.frac_keys.specs.Rising.{are_rising}
use Rattle.elem.specs.ElementValue.{ElementValue}
use Rattle.elem.specs.Facts.{IsElement}
use Rattle.elem.specs.Order.{unstamped, has_id}
use Rattle.elem.specs.Said.{HasValidTexts, AreElements}
use Rattle.elem_store.specs.Updates.{Taking, element_of, ids_of, is_taken, takings}
use Rattle.elem_store.proofs.CallerLemmas.{same_elements}
use Rattle.delta.specs.Pairs.{Pair}
use Rattle.undo_model.specs.Carrying.{with_put, taken, taken_all, followed, carried_over, carried, carried_all}
use Rattle.undo_model.specs.Differing.{same_kind}
use Rattle.undo_model.specs.Undoing.{undone}
use Rattle.undo_model.proofs.CallerLemmas.{same_kind-true, found-is, put-each, put-elements, taken_all-rising, carried_all-rising, carried-elements, carried-rising, undone-back}
use Rattle.snapshot.proofs.CallerLemmas.{takings-more}
use Rattle.replica.specs.Back.{IsCaptured}
use Rattle.replica.specs.State.{State, carried_with}
use Rattle.replica.proofs.CallerLemmas.{same-bare, SameAs, bare_of, find-unstamped, ids-unstamped}
use Rattle.session_laws.proofs.SoundStates.{IsKept}

-- an element as its type keeps it
abbrev Is : ElementValue → Type 0
Is e = IsElement e × HasValidTexts e

-- ---- an element that is put into lists that are the same but for stamps
put-bare : (e : ElementValue) (elements : List ElementValue) (id : List ℕ) → are_rising (ids_of elements) ≡ true
    → bare_of (with_put e elements) id ≡ cond (has_id id e) (Some (unstamped e)) (bare_of elements id)
put-bare e elements id rise =
    ap (option_map unstamped) ((put-each e elements rise).1 id) ∙ out (has_id id e) (element_of elements id)
  where
    out : (b : Bool) (o : Option ElementValue) → option_map unstamped (cond b (Some e) o)
        ≡ cond b (Some (unstamped e)) (option_map unstamped o)
    out true o = refl
    out false o = refl

put-same : (e u : ElementValue) (snapshot stored : List ElementValue) → are_rising (ids_of snapshot) ≡ true
    → are_rising (ids_of stored) ≡ true → unstamped u ≡ unstamped e → SameAs snapshot stored
    → SameAs (with_put u snapshot) (with_put e stored)
put-same e u snapshot stored rise rise' alike same id =
    put-bare u snapshot id rise
    ∙ (λ i. cond (has_id id (alike i)) (Some (alike i)) (same id i))
    ∙ sym (put-bare e stored id rise')

-- ---- an update that becomes stored is carried
module _ (snapshot stored : List ElementValue) (e : ElementValue) (rise : are_rising (ids_of snapshot) ≡ true)
    (rise' : are_rising (ids_of stored) ≡ true)
    (are : AreElements snapshot) (are' : AreElements stored) (is : Is e) (same : SameAs snapshot stored) where
  followed-same : (old : ElementValue) (o : Option ElementValue) → element_of stored e.id ≡ Some old → old.kind ≡ e.kind
      → element_of snapshot e.id ≡ o → SameAs (followed o old e snapshot) (with_put e stored)
  followed-same old None was kind none =
      absurd (none-some (unstamped old) (sym (ap (option_map unstamped) none) ∙ same e.id
      ∙ ap (option_map unstamped) was))
  followed-same old (Some held) was kind found =
      let own = found-is stored e.id old are' was in
      let alike : unstamped held ≡ unstamped old =
      same_Some (unstamped held) (unstamped old) (sym (ap (option_map unstamped) found) ∙ same e.id
      ∙ ap (option_map unstamped) was) in
      let pair : Pair = record { before = e; after = old } in
      put-same e (undone pair held) snapshot stored rise rise'
      (undone-back pair (is, own.0) (sym own.1) (sym kind) held alike) same

  carried-same : (o : Option ElementValue) → element_of stored e.id ≡ o
      → SameAs (carried_over o e snapshot) (with_put e stored)
  carried-same None none = put-same e e snapshot stored rise rise' refl same
  carried-same (Some old) was =
      cond_both (same_kind old.kind e.kind) (followed (element_of snapshot e.id) old e snapshot) (with_put e snapshot)
      (λ es. SameAs es (with_put e stored))
      (λ t. followed-same old (element_of snapshot e.id) was
      (same_kind-true old.kind e.kind (found-is stored e.id old are' was).0.0.kind is.0.kind t) refl)
      (λ f. put-same e e snapshot stored rise rise' refl same)

before-is : (stored : List ElementValue) (id : List ℕ) (o : Option ElementValue) → AreElements stored
    → element_of stored id ≡ o → IfSome o Is
before-is stored id None are found = tt
before-is stored id (Some old) are found = (found-is stored id old are found).0

-- and so is each of a list
all-same : (list snapshot stored : List ElementValue) → are_rising (ids_of snapshot) ≡ true
    → are_rising (ids_of stored) ≡ true → AreElements snapshot → AreElements stored → AreElements list
    → SameAs snapshot stored
    → SameAs (carried_all (takings stored list) snapshot) (taken_all list stored)
all-same [] snapshot stored rise rise' are are' all same = same
all-same (e ∷ more) snapshot stored rise rise' are are' all same =
    let is = All-head Is e more all in
    let rest = All-tail Is e more all in
    let taking : Taking = record { before = element_of stored e.id; taken = e } in
    subst (λ ts. SameAs (carried_all ts snapshot) (taken_all more (taken e stored)))
    (sym (takings-more stored e more rise'))
    (elim (cases_Bool (is_taken stored e)) [
      | inl t ↦
          let now : taken e stored ≡ with_put e stored = cond-true (is_taken stored e) (with_put e stored) stored t in
          let next = carried-same snapshot stored e rise rise' are are' is same (element_of stored e.id) refl in
          let later = all-same more (carried taking snapshot) (with_put e stored) (carried-rising taking snapshot rise)
          (put-each e stored rise').0
          (carried-elements taking snapshot (before-is stored e.id (element_of stored e.id) are' refl, is) are)
          (put-elements e stored is are') rest next in
          subst (λ ts. SameAs (carried_all ts snapshot) (taken_all more (taken e stored)))
          (sym (cond-true (is_taken stored e) (taking ∷ takings (with_put e stored) more) (takings stored more) t))
          (subst (λ es. SameAs (carried_all (takings (with_put e stored) more) (carried taking snapshot))
          (taken_all more es)) (sym now) later)
      | inr f ↦
          let now : taken e stored ≡ stored = cond-false (is_taken stored e) (with_put e stored) stored f in
          subst (λ ts. SameAs (carried_all ts snapshot) (taken_all more (taken e stored)))
          (sym (cond-false (is_taken stored e) (taking ∷ takings (with_put e stored) more) (takings stored more) f))
          (subst (λ es. SameAs (carried_all (takings stored more) snapshot) (taken_all more es)) (sym now)
          (all-same more snapshot stored rise rise' are are' rest same))
    ])

-- ---- lists whose ids rise

bare-same : (a b : List ElementValue) → are_rising (ids_of a) ≡ true → are_rising (ids_of b) ≡ true → SameAs a b
    → map unstamped a ≡ map unstamped b
bare-same a b rise rise' same =
    same_elements (map unstamped a) (map unstamped b) (ap are_rising (ids-unstamped a)
    ∙ rise) (ap are_rising (ids-unstamped b) ∙ rise')
    (λ id. sym (find-unstamped id a) ∙ same id ∙ find-unstamped id b)

pub carried-captured : (s : State) (list : List ElementValue) → IsKept s → AreElements list → IsCaptured s
    → IsCaptured (carried_with list s)
carried-captured s list kept are still =
    bare-same (carried_all (takings s.stored list) s.snapshot) (taken_all list s.stored)
    (carried_all-rising (takings s.stored list) s.snapshot kept.snapshot_rise)
    (taken_all-rising s.stored list kept.stored_rise)
    (all-same list s.snapshot s.stored kept.snapshot_rise kept.stored_rise kept.snapshot_elements kept.stored_elements
    are (same-bare s.snapshot s.stored still))
