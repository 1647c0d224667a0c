-- How ids are told apart by their first bytes. This project's own.
use Rattle.std.specs.Prelude.{ℕ, List}
use Rattle.board_base.specs.Fronts.{front_of}
use Rattle.elem.specs.ElementValue.{ElementValue}

-- the front of an element's id
abbrev pub front_at : ElementValue → List ℕ
front_at e = front_of e.id

-- The elements of a shelf, and how many fit in its room.
pub record Shelved : Type 0 where
  pub items : List ElementValue
  pub room : ℕ
