-- The part of two elements: the members outside the stamp in which they differ. This project's own,
-- after Excalidraw's deltas.
use Rattle.std.specs.Prelude.{◌≡◌, ℕ, List, Bool, true, false, ◌||◌, Option, Some, None, find, map, codes, bytes_eq, if◌then◌else◌}
use Rattle.frac_keys.specs.Rising.{are_rising}
use Rattle.elem.specs.declared.parts.BoundRef.{BoundRef}
use Rattle.elem.specs.ElementValue.{ElementValue}
use Rattle.delta.specs.declared.change.Change.{Change}
use Rattle.delta.specs.declared.change.Change.TheVariants.{Scalar, Groups, Bound}
use Rattle.delta.specs.Delta.{Delta}
use Rattle.delta.specs.Facts.{name_of, change_names}
use Rattle.delta.specs.Headers.{scalar_of}
use Rattle.elem.specs.Listings.{same_listing_entry}
use Rattle.delta.specs.Joined.{are_same}

-- the change of the member of this name, if there is one
abbrev pub change_of : List Change → List ℕ → Option Change
change_of changes name = find (λ change. bytes_eq name (name_of change)) changes

-- whether two scalars are the same: both have one value, or none
abbrev pub scalars_same : Option (List ℕ) → Option (List ℕ) → Bool
scalars_same None None = true
scalars_same None (Some b) = false
scalars_same (Some a) None = false
scalars_same (Some a) (Some b) = bytes_eq a b

-- the change of a scalar, and of a list; there is none where it is the same before and after
abbrev pub scalar_change : List ℕ → Option (List ℕ) → Option (List ℕ) → Option Change
scalar_change name before after =
    if scalars_same before after then None else Some (Scalar name before after)

abbrev pub groups_change : List (List ℕ) → List (List ℕ) → Option Change
groups_change before after =
    if are_same bytes_eq before after then None else Some (Groups before after)

abbrev pub bound_change : List BoundRef → List BoundRef → Option Change
bound_change before after =
    if are_same same_listing_entry before after then None else Some (Bound before after)

-- whether the member of this name is a list
abbrev pub is_list : List ℕ → Bool
is_list name = bytes_eq name (codes "groupIds") || bytes_eq name (codes "boundElements")

-- The part stands for a pair of elements: it has the change of each member in which they differ,
-- and no other one, in the order of the members' names.
pub record PartStandsFor (part : Delta) (before after : ElementValue) : Type 0 where
  pub id : part.id ≡ after.id
  pub kind : part.kind ≡ after.kind
  pub rise : are_rising (change_names part.changes) ≡ true
  pub scalars : (name : List ℕ) → is_list name ≡ false
      → change_of part.changes name ≡ scalar_change name (scalar_of before name)
      (scalar_of after name)
  pub groups : change_of part.changes (codes "groupIds") ≡ groups_change before.groups after.groups
  pub bound : change_of part.changes (codes "boundElements") ≡ bound_change before.bound after.bound

-- Where there is no old element, it counts as the new one, deleted.
abbrev pub counted : Option ElementValue → ElementValue → ElementValue
counted None new = record new { deleted = true }
counted (Some old) new = old

-- before and after exchanged
abbrev pub inverted : Change → Change
inverted (Scalar name before after) = Scalar name after before
inverted (Groups before after) = Groups after before
inverted (Bound before after) = Bound after before

abbrev pub inverse : Delta → Delta
inverse part = record part { changes = map inverted part.changes }

abbrev pub inverses : List Delta → List Delta
inverses parts = map inverse parts
