-- What tables keep of boards, and what a write makes of it.
use Rattle.std.specs.Prelude.{◌≡◌, ℕ, List, [], ◌∷◌, true, Option, Some, None, unwrap_or, bytes_eq, if◌then◌else◌}
use Rattle.frac_keys.specs.Rising.{are_rising}
use Rattle.elem.specs.ElementValue.{ElementValue}
use Rattle.elem.specs.Order.{has_id}
use Rattle.elem_store.specs.Updates.{element_of, ids_of}
use Rattle.board_tables.specs.declared.board.Board.{Board}
use Rattle.board_tables.specs.declared.writes.Write.{Write}
use Rattle.board_tables.specs.declared.writes.Change.{Change}
use Rattle.board_tables.specs.declared.writes.Change.TheVariants.{Put, Head, Drop}

-- All boards: by a board's name the text of its head, which a board that is kept has, and by its
-- name and an id the element that is kept of the id. This project's own.
pub record Boards : Type 0 where
  pub head : List ℕ → Option (List ℕ)
  pub element : List ℕ → List ℕ → Option ElementValue

-- no board
abbrev pub no_boards : Boards
no_boards = record { head = λ name. None; element = λ name id. None }

-- The head after a change: a board that is new has an empty one. This project's own.
abbrev pub changed_head : Change → Option (List ℕ) → Option (List ℕ)
changed_head (Put e) head = Some (unwrap_or head [])
changed_head (Head text) head = Some text
changed_head Drop head = None

-- The element of an id after a change. This project's own.
abbrev pub changed_element : Change → List ℕ → Option ElementValue → Option ElementValue
changed_element (Put e) id element = if has_id id e then Some e else element
changed_element (Head text) id element = element
changed_element Drop id element = None

-- All boards after a write: the board that it names is changed, the others stay. This project's
-- own.
abbrev pub written : Boards → Write → Boards
written boards write = record {
  head = λ name. if bytes_eq write.board name
      then changed_head write.change (boards.head name)
      else boards.head name;
  element = λ name id. if bytes_eq write.board name
      then changed_element write.change id (boards.element name id)
      else boards.element name id;
}

-- all boards after some writes, one after the other
abbrev pub all_written : Boards → List Write → Boards
all_written boards [] = boards
all_written boards (write ∷ more) = all_written (written boards write) more

-- These are the elements after one was put: it is the element of its id, the others stay, and the
-- ids rise.
pub record HasPut (old : List ElementValue) (e : ElementValue) (new : List ElementValue) : Type 0 where
  pub ordered : are_rising (ids_of new) ≡ true
  pub each : (id : List ℕ) → element_of new id ≡ (if has_id id e then Some e else element_of old id)

-- the head and the elements of a board, if there is one
abbrev pub head_in : Option Board → Option (List ℕ)
head_in None = None
head_in (Some board) = Some board.head

abbrev pub elements_in : Option Board → List ElementValue
elements_in None = []
elements_in (Some board) = board.elements

-- This is the board with this head and with this element of each id, in the order of the ids; there
-- is none where there is no head.
pub record IsBoard (head : Option (List ℕ)) (element : List ℕ → Option ElementValue) (found : Option Board) : Type 0 where
  pub is_head : head_in found ≡ head
  pub ordered : are_rising (ids_of (elements_in found)) ≡ true
  pub each : (id : List ℕ) → element_of (elements_in found) id ≡ element id

-- the parts of a board, or empty ones
pub record AreParts (found : Option Board) (head : List ℕ) (elements : List ElementValue) : Type 0 where
  pub head_is : head ≡ unwrap_or (head_in found) []
  pub elements_are : elements ≡ elements_in found

-- A board is as it was: its head, and its element of each id.
pub record StaysAt (old new : Boards) (name : List ℕ) : Type 0 where
  pub head : new.head name ≡ old.head name
  pub element : (id : List ℕ) → new.element name id ≡ old.element name id
