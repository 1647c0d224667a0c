-- Changes that are carried into a snapshot, so that they are no part of what is captured next. This
-- project's own, after Excalidraw's store.
-- Only this crate's own bodies and proofs need it.
use Rattle.std.specs.Prelude.{◌≡◌, ℕ, List, true, Option, Some, None, if◌then◌else◌}
use Rattle.std.specs.Option.{option_map}
use Rattle.frac_keys.specs.Rising.{are_rising}
use Rattle.elem.specs.ElementValue.{ElementValue}
use Rattle.elem.specs.Order.{has_id}
use Rattle.elem_store.specs.Updates.{element_of, ids_of}
use Rattle.undo_model.specs.Carrying.{with_put}
use Rattle.undo_model.specs.Differing.{same_kind}
use Rattle.undo_model.specs.Undoing.{undone}

-- The element is the one of its id, and the others stay.
pub record HasPut (before : List ElementValue) (e : ElementValue)
    (after : List ElementValue) : Type 0 where
  pub ordered : are_rising (ids_of after) ≡ true
  pub each : (id : List ℕ)
      → element_of after id ≡ (if has_id id e then Some e else element_of before id)

-- What a stored change makes of the captured element of its id, if there is one, as a function.
abbrev pub carried_to : Option ElementValue → Option ElementValue → ElementValue
    → Option ElementValue
carried_to captured None new = Some new
carried_to captured (Some old) new =
    if same_kind old.kind new.kind then option_map (undone (record { before = new; after = old }))
    captured
    else Some new

-- elements with one more, if there is one
abbrev pub with_made : Option ElementValue → List ElementValue → List ElementValue
with_made None elements = elements
with_made (Some e) elements = with_put e elements
