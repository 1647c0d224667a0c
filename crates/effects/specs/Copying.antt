-- What commands copy, and where the copies stand. After Excalidraw's duplicating; that they stand
-- one above the other at a spot is this project's own.
use Rattle.std.specs.Prelude.{ℕ, List, [], ◌∷◌, false, None, filter, map, length}
use Rattle.elem.specs.ElementValue.{ElementValue}
use Rattle.elem.specs.Order.{unstamped}
use Rattle.index_repair.specs.Keyed.{keyed}
use Rattle.copies.specs.Copies.{copies_of}
use Rattle.board_commands.specs.declared.command.Spot.{Spot}
use Rattle.elem_store.specs.Updates.{is_among}
use Rattle.effects.specs.Placing.{keys_at}

-- the shown elements of these ids, in the order of the scene
abbrev pub shown_among : List (List ℕ) → List ElementValue → List ElementValue
shown_among ids shown = filter (λ (e : ElementValue). is_among ids e.id) shown

-- the elements whose keys are settled where these are copied: all that is shown, and none where
-- nothing is copied
abbrev pub settled_for : List ElementValue → List ElementValue → List ElementValue
settled_for [] shown = []
settled_for (e ∷ originals) shown = shown

-- an element as a new one: live and at the first version, with the stamp of a change
abbrev pub as_new : ℕ → ℕ → ElementValue → ElementValue
as_new time nonce e = record e { version = 1; nonce = nonce; updated = time; deleted = false }

-- the copies of elements under a prefix, one above the other at a spot
abbrev pub copies_at : List ElementValue → List ElementValue → List ℕ → Spot → ℕ → ℕ
    → List ElementValue
copies_at shown originals prefix spot time nonce =
    map (as_new time nonce) (keyed (copies_of originals prefix)
    (keys_at shown spot (length (copies_of originals prefix))))

-- the element without its stamp and its key
abbrev pub unplaced : ElementValue → ElementValue
unplaced e = record (unstamped e) { index = None }
