-- The elements that commands of a drill make. This project's own.
use Rattle.std.specs.Prelude.{ℕ, List, [], not, Bool, false, None, map, filter, bytes_eq}
use Rattle.std.specs.List.{list_any}
use Rattle.json_text.specs.Compact.{Member as Pair}
use Rattle.json_text.specs.declared.text.Member.{Member}
use Rattle.restore_table.specs.Table.{defaults}
use Rattle.elem.specs.ElementValue.{ElementValue}
use Rattle.elem.specs.Facts.{header_names}
use Rattle.workload.specs.Texts.{numbered_id, kind_of}

abbrev pub member_of : Pair → Member
member_of pair = record { name = pair.0; value = pair.1 }

-- the rows of the table but those of the header
abbrev pub is_beside : Pair → Bool
is_beside row = not (list_any (bytes_eq row.0) header_names)

abbrev pub plain_rest : List Member
plain_rest = map member_of (filter is_beside defaults)

-- the element of this number as it is made: all but its id and its kind is as in the table
abbrev pub numbered_element : ℕ → ElementValue
numbered_element number = record {
  id = numbered_id number;
  kind = kind_of number;
  version = 1;
  nonce = 0;
  updated = 0;
  deleted = false;
  index = None;
  groups = [];
  frame = None;
  bound = [];
  container = None;
  start_binding = None;
  end_binding = None;
  file = None;
  rest = plain_rest;
}
