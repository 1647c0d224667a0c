-- A member that gets a value. This project's own.
use Rattle.std.specs.Prelude.{ℕ, List, [], ◌∷◌, Bool, Some, codes, bytes_eq, if◌then◌else◌}
use Rattle.std.specs.Option.{unwrap_or}
use Rattle.json_text.specs.Tree.{null_word}
use Rattle.scene_json.specs.Named.{value_at}
use Rattle.delta.specs.Rest.{with_value}
use Rattle.restore_table.specs.Table.{defaults}
use Rattle.elem.specs.ElementValue.{ElementValue}
use Rattle.elem_store.specs.Updates.{is_among}

-- the names of the members that no value can be given: what an element is, its stamp, and what
-- other commands change
abbrev pub protected_names : List (List ℕ)
protected_names =
    codes "id" ∷ codes "type" ∷ codes "version" ∷ codes "versionNonce" ∷ codes "updated"
    ∷ codes "index" ∷ codes "isDeleted"
    ∷ codes "groupIds" ∷ codes "frameId" ∷ codes "boundElements" ∷ codes "boundElementIds"
    ∷ codes "containerId"
    ∷ codes "startBinding" ∷ codes "endBinding" ∷ codes "fileId" ∷ []

abbrev pub is_protected : List ℕ → Bool
is_protected name = is_among protected_names name

-- the value that a member gets: null stands for the default, where the table has one
abbrev pub given_value : List ℕ → List ℕ → List ℕ
given_value name value =
    if bytes_eq value null_word then unwrap_or (value_at name defaults) value else value

-- The element whose member of this name got a value: the names of its further members rise.
abbrev pub with_set_member : List ℕ → List ℕ → ElementValue → ElementValue
with_set_member name value e =
    record e { rest = with_value name (Some (given_value name value)) e.rest }
