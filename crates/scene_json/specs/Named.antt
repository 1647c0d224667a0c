-- Members by their names. RFC 8259, section 4: the order of members plays no part.
use Rattle.std.specs.Prelude.{◌≡◌, ℕ, List, Option, bytes_eq}
use Rattle.std.specs.Cmp.Lexicographic.{slice_cmp}
use Rattle.std.specs.List.Sorted.{IsStrictlySortedBy}
use Rattle.std.specs.Map.{lookup}
use Rattle.std.specs.Ordering.{nat_cmp}
use Rattle.json_text.specs.Compact.{Member as Pair}
use Rattle.json_text.specs.Parts.{names_of}

-- the value of the first member with this name
abbrev pub value_at : List ℕ → List Pair → Option (List ℕ)
value_at name members = lookup (bytes_eq name) members

-- Both lists have the same value at each name: where no name comes twice, they are the same members
-- in whatever order.
abbrev pub AreSameMembers : List Pair → List Pair → Type 0
AreSameMembers members others = (name : List ℕ) → value_at name members ≡ value_at name others

-- Each name is less, by its bytes, than those after it.
abbrev pub HaveRisingNames : List Pair → Type 0
HaveRisingNames members = IsStrictlySortedBy (slice_cmp nat_cmp) (names_of members)
