-- What is stored once updates were taken, and what a snapshot has once changes were carried into it.
use Rattle.std.proofs.Common.{◌≡◌, ℕ, Bool, true, false, cond, ◌&&◌, List, [], ◌∷◌, ◌++◌, Option, Some, None, IfSome, All, if◌then◌else◌, inl, inr, refl, sym, ap, ◌∙◌, subst, append_assoc, append-nil}
use Rattle.std.proofs.lemmas.Bool.{cases_Bool, cond-true, cond-false, cond_both}
use Rattle.std.proofs.lemmas.List.Elements.{All-from_recursion, recursion_from_All, All-nil, All-cons, All-head, All-tail, All-push, All-contains}
use Rattle.frac_keys.specs.Rising.{are_rising}
use Rattle.elem.specs.ElementValue.{ElementValue}
use Rattle.elem.specs.Facts.{IsElement}
use Rattle.elem.specs.Said.{HasValidTexts, AreElements}
use Rattle.elem.specs.Order.{has_id}
use Rattle.elem_store.specs.Updates.{Taking, stored_of, element_of, ids_of, is_newer, is_taken, takings, AreStored, HasTaken}
use Rattle.elem_store.proofs.CallerLemmas.{IsBestOf-stored, HasTaken-not, find-Some, same_elements, AreStored-push, store-unique}
use Rattle.delta.specs.Pairs.{Pair}
use Rattle.delta.proofs.CallerLemmas.{item-put, rising-put, each-put}
use Rattle.undo_model.specs.Carrying.{with_put, taken, taken_all, followed, carried_over, carried, carried_all}
use Rattle.undo_model.specs.Differing.{same_kind}
use Rattle.undo_model.specs.Entries.{IsTakingOfElements}
use Rattle.undo_model.specs.Undoing.{undone}
use Rattle.undo_model.proofs.DifferingLaws.{same_kind-true}
use Rattle.undo_model.proofs.UndoneLaws.{undone-element}

-- ---- an element that takes its place
pub put-rising : (e : ElementValue) (elements : List ElementValue) → are_rising (ids_of elements) ≡ true
    → are_rising (ids_of (with_put e elements)) ≡ true
put-rising e elements h = rising-put (λ (x : ElementValue). x.id) e elements h

pub put-each : (e : ElementValue) (elements : List ElementValue) → are_rising (ids_of elements) ≡ true
    → (are_rising (ids_of (with_put e elements)) ≡ true)
    × ((id : List ℕ) → element_of (with_put e elements) id
    ≡ (if has_id id e then Some e else element_of elements id))
put-each e elements h = (put-rising e elements h, λ id. item-put (λ (x : ElementValue). x.id) e elements id h)

-- an element as its type keeps it
abbrev pub Is : ElementValue → Type 0
Is e = IsElement e × HasValidTexts e

pub put-elements : (e : ElementValue) (elements : List ElementValue) → IsElement e × HasValidTexts e
    → AreElements elements → AreElements (with_put e elements)
put-elements e elements is are =
    All-from_recursion Is (with_put e elements) (each-put (λ (x : ElementValue). x.id) Is e elements is
    (recursion_from_All Is elements are))

-- ---- one update
pub taken-has : (stored : List ElementValue) (e : ElementValue) → are_rising (ids_of stored) ≡ true
    → HasTaken stored e (taken e stored)
taken-has stored e rise = elim (cases_Bool (is_taken stored e)) [
  | inl t ↦
      let put = put-each e stored rise in
      subst (HasTaken stored e) (sym (cond-true (is_taken stored e) (with_put e stored) stored t)) (record {
        ordered = put.0;
        each = λ id.
            put.1 id ∙ own (has_id id e) (element_of stored id)
            ∙ sym (ap (λ b. cond (has_id id e && b) (Some e) (element_of stored id)) t);
      })
  | inr f ↦ subst (HasTaken stored e) (sym (cond-false (is_taken stored e) (with_put e stored) stored f))
      (HasTaken-not stored e rise f)
]
  where
    own : (b : Bool) (o : Option ElementValue) → cond b (Some e) o ≡ cond (b && true) (Some e) o
    own true o = refl
    own false o = refl

pub taken-is : (stored : List ElementValue) (e : ElementValue) (new : List ElementValue)
    → are_rising (ids_of stored) ≡ true → HasTaken stored e new → new ≡ taken e stored
taken-is stored e new rise has =
    let own = taken-has stored e rise in
    same_elements new (taken e stored) has.ordered own.ordered (λ id. has.each id ∙ sym (own.each id))

pub taken-elements : (stored : List ElementValue) (e : ElementValue) → AreElements stored → IsElement e
    × HasValidTexts e → AreElements (taken e stored)
taken-elements stored e are is =
    cond_both (is_taken stored e) (with_put e stored) stored AreElements (λ t. put-elements e stored is are) (λ f. are)

-- ---- all of a list
pub taken_all-stored : (updates stored list : List ElementValue) → AreStored updates stored
    → AreStored (updates ++ list) (taken_all list stored)
taken_all-stored updates stored [] are = subst (λ us. AreStored us stored) (sym (append-nil updates)) are
taken_all-stored updates stored (e ∷ list) are =
    let next = AreStored-push updates stored (taken e stored) e are (taken-has stored e are.ordered) in
    subst (λ us. AreStored us (taken_all list (taken e stored))) (append_assoc updates (e ∷ []) list)
    (taken_all-stored (updates ++ e ∷ []) (taken e stored) list next)

pub taken_all-is : (updates stored list new : List ElementValue) → AreStored updates stored
    → AreStored (updates ++ list) new → new ≡ taken_all list stored
taken_all-is updates stored list new are is =
    store-unique (updates ++ list) new (taken_all list stored) is (taken_all-stored updates stored list are)

pub taken_all-elements : (stored list : List ElementValue) → AreElements stored → AreElements list
    → AreElements (taken_all list stored)
taken_all-elements stored [] are are' = are
taken_all-elements stored (e ∷ list) are are' =
    taken_all-elements (taken e stored) list (taken-elements stored e are (All-head Is e list are'))
    (All-tail Is e list are')

pub taken_all-rising : (stored list : List ElementValue) → are_rising (ids_of stored) ≡ true
    → are_rising (ids_of (taken_all list stored)) ≡ true
taken_all-rising stored [] rise = rise
taken_all-rising stored (e ∷ list) rise = taken_all-rising (taken e stored) list (taken-has stored e rise).ordered

-- ---- a snapshot into which changes were carried
module _ (old new : ElementValue) (is : IsElement old × HasValidTexts old) (is' : IsElement new
    × HasValidTexts new) (kind : old.kind ≡ new.kind) (snapshot : List ElementValue) where
  followed-elements : (o : Option ElementValue) → element_of snapshot new.id ≡ o → AreElements snapshot
      → AreElements (followed o old new snapshot)
  followed-elements None h are = are
  followed-elements (Some captured) h are =
      let iscaptured = All-contains Is snapshot captured are (find-Some (has_id new.id) snapshot captured h).0 in
      let pair : Pair = record { before = new; after = old } in
      put-elements (undone pair captured) snapshot (undone-element pair captured (is', is) (sym kind) iscaptured.0
      iscaptured.1) are

followed-rising : (o : Option ElementValue) (old new : ElementValue) (snapshot : List ElementValue)
    → are_rising (ids_of snapshot) ≡ true → are_rising (ids_of (followed o old new snapshot)) ≡ true
followed-rising None old new snapshot rise = rise
followed-rising (Some captured) old new snapshot rise =
    put-rising (undone (record { before = new; after = old }) captured) snapshot rise

carried_over-elements : (before : Option ElementValue) (new : ElementValue) (snapshot : List ElementValue)
    → IfSome before Is → Is new → AreElements snapshot → AreElements (carried_over before new snapshot)
carried_over-elements None new snapshot was is are = put-elements new snapshot is are
carried_over-elements (Some old) new snapshot was is are =
    cond_both (same_kind old.kind new.kind) (followed (element_of snapshot new.id) old new snapshot)
    (with_put new snapshot) AreElements
    (λ t. followed-elements old new was is (same_kind-true old.kind new.kind was.0.kind is.0.kind t) snapshot
    (element_of snapshot new.id) refl are)
    (λ f. put-elements new snapshot is are)

carried_over-rising : (before : Option ElementValue) (new : ElementValue) (snapshot : List ElementValue)
    → are_rising (ids_of snapshot) ≡ true → are_rising (ids_of (carried_over before new snapshot)) ≡ true
carried_over-rising None new snapshot rise = put-rising new snapshot rise
carried_over-rising (Some old) new snapshot rise =
    cond_both (same_kind old.kind new.kind) (followed (element_of snapshot new.id) old new snapshot)
    (with_put new snapshot) (λ es. are_rising (ids_of es) ≡ true)
    (λ t. followed-rising (element_of snapshot new.id) old new snapshot rise) (λ f. put-rising new snapshot rise)

pub carried-elements : (taking : Taking) (snapshot : List ElementValue) → IsTakingOfElements taking
    → AreElements snapshot → AreElements (carried taking snapshot)
carried-elements taking snapshot is are = carried_over-elements taking.before taking.taken snapshot is.0 is.1 are

pub carried-rising : (taking : Taking) (snapshot : List ElementValue) → are_rising (ids_of snapshot) ≡ true
    → are_rising (ids_of (carried taking snapshot)) ≡ true
carried-rising taking snapshot rise = carried_over-rising taking.before taking.taken snapshot rise

pub carried_all-elements : (takings : List Taking) (snapshot : List ElementValue) → All IsTakingOfElements takings
    → AreElements snapshot → AreElements (carried_all takings snapshot)
carried_all-elements [] snapshot all are = are
carried_all-elements (taking ∷ takings) snapshot all are =
    carried_all-elements takings (carried taking snapshot) (All-tail IsTakingOfElements taking takings all)
    (carried-elements taking snapshot (All-head IsTakingOfElements taking takings all) are)

pub carried_all-rising : (takings : List Taking) (snapshot : List ElementValue) → are_rising (ids_of snapshot) ≡ true
    → are_rising (ids_of (carried_all takings snapshot)) ≡ true
carried_all-rising [] snapshot rise = rise
carried_all-rising (taking ∷ takings) snapshot rise =
    carried_all-rising takings (carried taking snapshot) (carried-rising taking snapshot rise)

-- what becomes stored of elements over elements is of elements
pub takings-elements : (updates list : List ElementValue) → AreElements updates → AreElements list
    → All IsTakingOfElements (takings updates list)
takings-elements updates [] are are' = All-nil IsTakingOfElements
takings-elements updates (e ∷ list) are are' =
    let is = All-head Is e list are' in
    let before = stored_of updates e.id in
    let rest = takings-elements (updates ++ e ∷ []) list (All-push Is updates e are is) (All-tail Is e list are') in
    cond_both (is_newer e before) (record { before = before; taken = e } ∷ takings (updates ++ e ∷ []) list)
    (takings (updates ++ e ∷ []) list) (All IsTakingOfElements)
    (λ t. All-cons IsTakingOfElements (record { before = before; taken = e }) (takings (updates ++ e ∷ []) list)
    (was before refl, is) rest)
    (λ f. rest)
  where
    was : (o : Option ElementValue) → stored_of updates e.id ≡ o → IfSome o Is
    was None h = tt
    was (Some old) h = All-contains Is updates old are (IsBestOf-stored updates e.id old h).taken
