-- The element goes to the place of its id where it beats the one there, or to a place of its own.
use Rattle.std.proofs.Common.{◌≡◌, get_or, sym, ap, ◌∙◌, subst, arith}
use Rattle.std.proofs.lemmas.Option.{slice_get-get_or, get_or_from_slice_get}
use Rattle.elem.specs.ElementValue.{ElementValue}
use Rattle.elem_store.specs.Updates.{is_taken}
use Rattle.elem_store.specs.Stock.{Held}
use Rattle.elem_store.specs.Places.{elements_at, IsAt, IsGapFor}
use Rattle.elem_store.proofs.StoreLaws.{AreStored-push}
use Rattle.elem_store.proofs.Edits.{element-gap, is_taken-gap}
use Rattle.elem_store.proofs.Placed.{at-within, place_within, within_count, taken-replaced, HasTaken-replaced, AreInOrder-replaced, HasTaken-added, AreInOrder-added}
use Rattle.elem_store.proofs.store.Store.take.Goals as goal
use Rattle.elem_store.proofs.store.Store.take.Goals.{In-Ok, In-Err, After-unwrap-place}

-- the id of the element that was passed is at the index, or has its gap there
at : (c : In-Ok) → IsAt (elements_at c.self.inside.elements.items c.self.inside.places.places) c.args.e.id c.in-Ok.i
at c = subst (λ (e : ElementValue). IsAt (elements_at c.self.inside.elements.items c.self.inside.places.places) e.id
    c.in-Ok.i) c.e.view_is c.in-Ok.ensures.found

gap : (c : In-Err) → IsGapFor (elements_at c.self.inside.elements.items c.self.inside.places.places) c.args.e.id
    c.in-Err.i
gap c = subst (λ (e : ElementValue). IsGapFor (elements_at c.self.inside.elements.items c.self.inside.places.places)
    e.id c.in-Err.i) c.e.view_is c.in-Err.ensures.absent

pub unwrap-place-requires : goal.unwrap-place-requires
unwrap-place-requires c =
    let s = c.self.inside in
    let within = at-within s.elements.items s.places.places c.self.invariant _ c.in-Ok.i c.in-Ok.ensures.found in
    let some = c.get.ensures ∙ slice_get-get_or s.places.places c.in-Ok.i 0 within in
    rw some

-- the place that was read is the one at the index
place-read : (c : After-unwrap-place) → c.unwrap-place.result
    ≡ get_or c.self.inside.places.places c.in-Ok.i c.unwrap-place.result
place-read c = sym (get_or_from_slice_get c.self.inside.places.places c.in-Ok.i c.unwrap-place.result
    c.unwrap-place.result (sym c.get.ensures ∙ c.unwrap-place.ensures))

pub replace_beaten-requires : goal.replace_beaten-requires
replace_beaten-requires c =
    let s = c.self.inside in
    place_within s.elements.items s.places.places c.self.invariant c.args.e c.in-Ok.i c.unwrap-place.result
    (at (goal.at.replace_beaten-requires c).In-Ok)
    (place-read (goal.at.replace_beaten-requires c).After-unwrap-place)

pub invariant_of-self : goal.invariant_of-self
invariant_of-self c =
    let s = c.self.inside in
    rw c.replace_beaten.ensures.items
    (AreInOrder-replaced s.elements.items s.places.places c.self.invariant c.args.e c.in-Ok.i c.unwrap-place.result
    (at (goal.at.invariant_of-self c).In-Ok) (place-read (goal.at.invariant_of-self c).After-unwrap-place) _
    c.replace_beaten.ensures.beaten)

pub returns-in-Ok-clause-after : goal.returns-in-Ok-clause-after
returns-in-Ok-clause-after c =
    let s = c.self.inside in
    rw (c.replace_beaten.ensures.items, ← c.self.view_is)
    (HasTaken-replaced s.elements.items s.places.places c.self.invariant c.args.e c.in-Ok.i c.unwrap-place.result
    (at (goal.at.returns-in-Ok-clause-after c).In-Ok)
    (place-read (goal.at.returns-in-Ok-clause-after c).After-unwrap-place) _ c.replace_beaten.ensures.beaten)

pub returns-in-Ok-clause-stored : goal.returns-in-Ok-clause-stored
returns-in-Ok-clause-stored c updates stored =
    AreStored-push updates c.args.self.now.elements _ c.args.e stored (returns-in-Ok-clause-after c)

pub returns-in-Ok-clause-taken : goal.returns-in-Ok-clause-taken
returns-in-Ok-clause-taken c =
    let s = c.self.inside in
    c.replace_beaten.ensures.beaten
    ∙ sym (taken-replaced s.elements.items s.places.places c.self.invariant c.args.e c.in-Ok.i c.unwrap-place.result
    (at (goal.at.returns-in-Ok-clause-taken c).In-Ok)
    (place-read (goal.at.returns-in-Ok-clause-taken c).After-unwrap-place))
    ∙ ap (λ (s : Held). is_taken s.elements c.args.e) c.self.view_is

pub add-requires : goal.add-requires
add-requires c =
    let s = c.self.inside in
    within_count s.elements.items s.places.places c.self.invariant c.args.e c.in-Err.i
    (gap (goal.at.add-requires c).In-Err)

pub invariant_of-self-in-Err : goal.invariant_of-self-in-Err
invariant_of-self-in-Err c =
    let s = c.self.inside in
    rw (c.in_ok-add-in-Err.ensures.elements, c.in_ok-add-in-Err.ensures.places)
    (AreInOrder-added s.elements.items s.places.places c.self.invariant c.args.e c.in-Err.i
    (gap (goal.at.invariant_of-self-in-Err c).In-Err))

pub returns-in_ok-add-in-Err-clause-after : goal.returns-in_ok-add-in-Err-clause-after
returns-in_ok-add-in-Err-clause-after c =
    let s = c.self.inside in
    rw (c.in_ok-add-in-Err.ensures.elements, c.in_ok-add-in-Err.ensures.places, ← c.self.view_is)
    (HasTaken-added s.elements.items s.places.places c.self.invariant c.args.e c.in-Err.i
    (gap (goal.at.returns-in_ok-add-in-Err-clause-after c).In-Err))

pub returns-in_ok-add-in-Err-clause-stored : goal.returns-in_ok-add-in-Err-clause-stored
returns-in_ok-add-in-Err-clause-stored c updates stored =
    AreStored-push updates c.args.self.now.elements _ c.args.e stored (returns-in_ok-add-in-Err-clause-after c)

pub returns-in_ok-add-in-Err-clause-taken : goal.returns-in_ok-add-in-Err-clause-taken
returns-in_ok-add-in-Err-clause-taken c =
    sym (is_taken-gap _ c.args.e c.in-Err.i (gap (goal.at.returns-in_ok-add-in-Err-clause-taken c).In-Err))
    ∙ ap (λ (s : Held). is_taken s.elements c.args.e) c.self.view_is

pub returns-in_err-add-in-Err-clause-known : goal.returns-in_err-add-in-Err-clause-known
returns-in_err-add-in-Err-clause-known c some =
    grind (
      arith,
      element-gap _ c.args.e.id c.in-Err.i (gap (goal.at.returns-in_err-add-in-Err-clause-known c).In-Err),
      ap (λ (s : Held). s.elements) c.self.view_is,
    )
