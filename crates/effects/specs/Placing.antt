-- Keys of the scene's order: settled ones, and those at a spot. This project's own.
use Rattle.std.specs.Prelude.{ℕ, List, [], ◌∷◌, Bool, false, not, Option, Some, None, filter, bytes_eq, if◌then◌else◌}
use Rattle.std.specs.Option.{option_map_or, option_and_then}
use Rattle.frac_keys.specs.Between.{key_between, keys_between}
use Rattle.frac_keys.specs.Rising.{lies_between}
use Rattle.elem.specs.ElementValue.{ElementValue}
use Rattle.elem_store.specs.Updates.{element_of}
use Rattle.board_commands.specs.declared.command.Spot.{Spot}
use Rattle.board_commands.specs.declared.command.Spot.TheVariants.{Bottom, Top, After}

-- the key that an element has in the view, or its own where it isn't shown
abbrev pub settled_key : List ElementValue → ElementValue → Option (List ℕ)
settled_key shown e = option_map_or (λ (s : ElementValue). s.index) (element_of shown e.id) e.index

-- the element with the key that it has in the view
abbrev pub with_view_key : List ElementValue → ElementValue → ElementValue
with_view_key shown e = record e { index = settled_key shown e }

-- whether an element is of this id, if one is given
abbrev pub is_of : Option (List ℕ) → ElementValue → Bool
is_of None e = false
is_of (Some id) e = bytes_eq id e.id

-- the elements but the one of this id, if one is given
abbrev pub others : Option (List ℕ) → List ElementValue → List ElementValue
others except elements = filter (λ (e : ElementValue). not (is_of except e)) elements

-- the key of the first of elements, and of the last, if there is one
abbrev pub first_key : List ElementValue → Option (List ℕ)
first_key [] = None
first_key (e ∷ elements) = e.index

abbrev pub last_key_or : Option (List ℕ) → List ElementValue → Option (List ℕ)
last_key_or key [] = key
last_key_or key (e ∷ elements) = last_key_or e.index elements

abbrev pub last_key : List ElementValue → Option (List ℕ)
last_key elements = last_key_or None elements

-- the keys beside a spot of elements in their order: of the element below it and of the one above
-- it
pub record Gap : Type 0 where
  pub low : Option (List ℕ)
  pub high : Option (List ℕ)

abbrev pub gap_above : List ℕ → List ElementValue → Gap
gap_above id [] = record { low = None; high = None }
gap_above id (e ∷ elements) =
    if bytes_eq id e.id then record { low = e.index; high = first_key elements } else gap_above id
    elements

abbrev pub gap_at : Spot → List ElementValue → Gap
gap_at Bottom elements = record { low = None; high = first_key elements }
gap_at Top elements = record { low = last_key elements; high = None }
gap_at (After id) elements = gap_above id elements

-- whether a key lies strictly within a gap
abbrev pub lies_within : Gap → Option (List ℕ) → Bool
lies_within gap None = false
lies_within gap (Some key) = lies_between gap.low gap.high key

-- the key in a gap: the old one where it lies within, and else the one between the keys beside it
abbrev pub key_within : Gap → Option (List ℕ) → Option (List ℕ)
key_within gap old = if lies_within gap old then old else Some (key_between gap.low gap.high)

-- the gap at a spot among the elements but the one of this id, if one is given
abbrev pub gap_of : List ElementValue → Spot → Option (List ℕ) → Gap
gap_of shown spot except = gap_at spot (others except shown)

-- The key at a spot among the others of an element of this id, or of a new one: its old one where
-- it stands there.
abbrev pub key_at : List ElementValue → Spot → Option (List ℕ) → Option (List ℕ) → Option (List ℕ)
key_at shown spot except old = key_within (gap_of shown spot except) old

-- the keys of so many new elements at a spot, one above the other
abbrev pub keys_at : List ElementValue → Spot → ℕ → List (List ℕ)
keys_at shown spot count =
    keys_between (gap_of shown spot None).low (gap_of shown spot None).high count

-- the key of the shown element of an id
abbrev pub key_in : List ElementValue → List ℕ → Option (List ℕ)
key_in shown id = option_and_then (λ (e : ElementValue). e.index) (element_of shown id)

-- the element, which has the key if it is of this id
abbrev pub with_key_of : List ℕ → Option (List ℕ) → ElementValue → ElementValue
with_key_of id key e = if bytes_eq id e.id then record e { index = key } else e
