-- Copies of elements under a prefix: they name each other as the elements do, and no other element.
-- After Excalidraw's duplicating; that the prefix is the caller's is this project's own.
use Rattle.std.specs.Prelude.{ℕ, List, ◌++◌, Bool, false, Option, Some, None, filter, map, if◌then◌else◌}
use Rattle.std.specs.List.{list_any}
use Rattle.elem.specs.declared.parts.BoundRef.{BoundRef}
use Rattle.elem.specs.declared.parts.Binding.{Binding}
use Rattle.elem.specs.ElementValue.{ElementValue}
use Rattle.elem.specs.Order.{has_id}

-- whether an element of the list has this id
abbrev pub is_among : List ElementValue → List ℕ → Bool
is_among list id = list_any (has_id id) list

-- what a copy has in place of the name of an element: the copy's name, and none where no element of
-- the list has the id
abbrev pub copied_name : (List ℕ → Bool) → List ℕ → Option (List ℕ) → Option (List ℕ)
copied_name among prefix None = None
copied_name among prefix (Some id) = if among id then Some (prefix ++ id) else None

-- the same of an arrow's binding
abbrev pub copied_end : (List ℕ → Bool) → List ℕ → Option Binding → Option Binding
copied_end among prefix None = None
copied_end among prefix (Some binding) =
    if among binding.target then Some (record binding { target = prefix ++ binding.target })
    else None

-- the same of a listing: the entries of other ids go
abbrev pub copied_entry : List ℕ → BoundRef → BoundRef
copied_entry prefix entry = record entry { id = prefix ++ entry.id }

abbrev pub copied_entries : (List ℕ → Bool) → List ℕ → List BoundRef → List BoundRef
copied_entries among prefix entries =
    map (copied_entry prefix) (filter (λ (entry : BoundRef). among entry.id) entries)

-- the copy of an element: its id and its groups stand under the prefix, it is as new, and all else
-- is as it was
unfoldable pub copy_among : (List ℕ → Bool) → List ℕ → ElementValue → ElementValue
copy_among among prefix e = record e {
  id = prefix ++ e.id;
  version = 1;
  nonce = 0;
  updated = 0;
  deleted = false;
  index = None;
  groups = map (λ group. prefix ++ group) e.groups;
  frame = copied_name among prefix e.frame;
  bound = copied_entries among prefix e.bound;
  container = copied_name among prefix e.container;
  start_binding = copied_end among prefix e.start_binding;
  end_binding = copied_end among prefix e.end_binding;
}

-- a copy of each element of the list, in the list's order
unfoldable pub copies_of : List ElementValue → List ℕ → List ElementValue
copies_of list prefix = map (copy_among (is_among list) prefix) list
