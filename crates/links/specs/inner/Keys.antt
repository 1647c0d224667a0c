-- How ids are told apart by a number. This project's own.
-- Only this crate's own bodies and proofs need it.
use Rattle.std.specs.Prelude.{ℕ, List, ◌∷◌}
use Rattle.std.specs.Int.{from_be_bytes, w64}
use Rattle.board_base.specs.Fronts.{front_of}

-- the front of an id, as a number
unfoldable pub front_number : List ℕ → ℕ
front_number id = from_be_bytes w64 (front_of id)

-- An id behind the number of its front: the order of these lists is that of the fronts, and for one
-- front that of the ids.
abbrev pub rank : List ℕ → List ℕ
rank id = front_number id ∷ id
