-- Changes of two elements, name by name. This project's own.
use Rattle.std.specs.Prelude.{◌≡◌, ℕ, List, true, Option, Some, None, codes, bytes_eq, if◌then◌else◌}
use Rattle.std.specs.List.{AllByRecursion, list_any}
use Rattle.frac_keys.specs.Rising.{are_rising}
use Rattle.elem.specs.ElementValue.{ElementValue}
use Rattle.delta.specs.declared.change.Change.{Change}
use Rattle.delta.specs.Facts.{IsChange, name_of, change_names}
use Rattle.delta.specs.Headers.{scalar_of}
use Rattle.delta.specs.Placed.{with_item}
use Rattle.delta.specs.Parts.{change_of, scalar_change, groups_change, bound_change}

-- the change of the member of this name, if it differs
abbrev pub change_between : ElementValue → ElementValue → List ℕ → Option Change
change_between before after name =
    if bytes_eq name (codes "groupIds") then groups_change before.groups after.groups
    else (if bytes_eq name (codes "boundElements") then bound_change before.bound after.bound
    else scalar_change name (scalar_of before name) (scalar_of after name))

-- the changes with one more, if there is one
abbrev pub with_change : List Change → Option Change → List Change
with_change changes None = changes
with_change changes (Some change) = with_item name_of change changes

-- The changes tell of these names and of no other one.
pub record AreChangesOf (before after : ElementValue) (names : List (List ℕ))
    (changes : List Change) : Type 0 where
  pub told : (name : List ℕ) → change_of changes name
      ≡ (if list_any (bytes_eq name) names then change_between before after name else None)
  pub rise : are_rising (change_names changes) ≡ true
  pub each : AllByRecursion (IsChange after.kind) changes

-- The changes tell of all names.
pub record AreAllChanges (before after : ElementValue) (changes : List Change) : Type 0 where
  pub told : (name : List ℕ) → change_of changes name ≡ change_between before after name
  pub rise : are_rising (change_names changes) ≡ true
  pub each : AllByRecursion (IsChange after.kind) changes
