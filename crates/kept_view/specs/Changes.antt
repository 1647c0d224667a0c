-- How two lists of elements differ. This project's own.
use Rattle.std.specs.Prelude.{◌≡◌, ℕ, List, false, bytes_eq}
use Rattle.std.specs.List.{list_any}
use Rattle.elem.specs.ElementValue.{ElementValue}
use Rattle.elem_store.specs.Updates.{element_of}

-- two lists of elements have the same element of each other id than these
abbrev pub AreSameButAt : List (List ℕ) → List ElementValue → List ElementValue → Type 0
AreSameButAt ids elements others =
    (id : List ℕ) → list_any (bytes_eq id) ids ≡ false
    → element_of elements id ≡ element_of others id
