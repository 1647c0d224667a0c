-- A store as contracts see it. That it tells its room is this project's own.
use Rattle.std.specs.Prelude.{ℕ, List}
use Rattle.elem.specs.ElementValue.{ElementValue}

-- The stored elements, one for each id, in the order of the ids; and how many new ids there is room
-- for. "As before" is said of the elements: room may have grown.
pub record Stock : Type 0 where
  pub elements : List ElementValue
  pub spare : ℕ

-- The same, and the stored elements in the order in which their ids came.
pub record Held : Type 0 where
  pub elements : List ElementValue
  pub spare : ℕ
  pub given : List ElementValue
