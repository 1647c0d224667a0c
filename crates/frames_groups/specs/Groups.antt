-- The groups that an element is in. That repeated ones go is this project's own.
use Rattle.std.specs.Prelude.{ℕ, List, [], All, map, bytes_eq}
use Rattle.std.specs.List.{IsDistinct}
use Rattle.json_text.specs.FirstOccurrences.{first_texts}
use Rattle.elem.specs.ElementValue.{ElementValue}

-- the element in these groups
abbrev pub with_groups : ElementValue → List (List ℕ) → ElementValue
with_groups e groups = record e { groups = groups }

-- the element, each of its groups once, where it stands first
abbrev pub grouped : ElementValue → ElementValue
grouped e = with_groups e (first_texts e.groups)

-- each element of a list, each of its groups once
abbrev pub groups_settled : List ElementValue → List ElementValue
groups_settled elements = map grouped elements

-- No element has a group twice.
abbrev pub HaveDistinctGroups : List ElementValue → Type 0
HaveDistinctGroups elements = All (λ (e : ElementValue). IsDistinct bytes_eq e.groups) elements

-- the element in no group
abbrev pub without_groups : ElementValue → ElementValue
without_groups e = with_groups e []
