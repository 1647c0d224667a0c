-- What taking an update makes of stored elements, and what a change that nobody captures makes of a
-- snapshot, as functions. This project's own, after Excalidraw's store.
use Rattle.std.specs.Prelude.{List, [], ◌∷◌, Option, Some, None, if◌then◌else◌}
use Rattle.elem.specs.ElementValue.{ElementValue}
use Rattle.elem_store.specs.Updates.{Taking, element_of, is_taken}
use Rattle.delta.specs.Placed.{with_item}
use Rattle.undo_model.specs.Differing.{same_kind}
use Rattle.undo_model.specs.Undoing.{undone}

-- elements in the order of their ids and one more, which takes the place of that of its id
abbrev pub with_put : ElementValue → List ElementValue → List ElementValue
with_put e elements = with_item (λ (e : ElementValue). e.id) e elements

abbrev pub with_all_put : List ElementValue → List ElementValue → List ElementValue
with_all_put [] elements = elements
with_all_put (e ∷ more) elements = with_all_put more (with_put e elements)

-- stored elements after an update, which is stored where its id is new or it beats the stored one
abbrev pub taken : ElementValue → List ElementValue → List ElementValue
taken e stored = if is_taken stored e then with_put e stored else stored

abbrev pub taken_all : List ElementValue → List ElementValue → List ElementValue
taken_all [] stored = stored
taken_all (e ∷ more) stored = taken_all more (taken e stored)

-- a snapshot after a change from one element to another of its kind, which is made of the captured
-- one, if there is one
abbrev pub followed : Option ElementValue → ElementValue → ElementValue → List ElementValue
    → List ElementValue
followed None old new snapshot = snapshot
followed (Some captured) old new snapshot =
    with_put (undone (record { before = new; after = old }) captured) snapshot

-- A snapshot after a stored change was carried into it: a new element, or one of another kind, is
-- then that of the snapshot.
abbrev pub carried_over : Option ElementValue → ElementValue → List ElementValue → List ElementValue
carried_over None new snapshot = with_put new snapshot
carried_over (Some old) new snapshot =
    if same_kind old.kind new.kind then followed (element_of snapshot new.id) old new snapshot
    else with_put
    new snapshot

abbrev pub carried : Taking → List ElementValue → List ElementValue
carried taking snapshot = carried_over taking.before taking.taken snapshot

abbrev pub carried_all : List Taking → List ElementValue → List ElementValue
carried_all [] snapshot = snapshot
carried_all (taking ∷ more) snapshot = carried_all more (carried taking snapshot)
