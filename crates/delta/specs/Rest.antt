-- Members in the order of their names, one of which changes. This project's own.
use Rattle.std.specs.Prelude.{ℕ, List, [], ◌∷◌, ◌++◌, Option, Some, None, bytes_eq, if◌then◌else◌}
use Rattle.json_text.specs.declared.text.Member.{Member}
use Rattle.frac_keys.specs.Keys.{bytes_less}

-- the value of a member, if it has this name
abbrev pub value_if : List ℕ → Member → Option (List ℕ)
value_if name member = if bytes_eq name member.name then Some member.value else None

-- the member of this name with this value, if there is one
abbrev pub made : List ℕ → Option (List ℕ) → List Member
made name None = []
made name (Some value) = record { name = name; value = value } ∷ []

-- without the first member, where it has this name
abbrev pub without_first : List ℕ → List Member → List Member
without_first name [] = []
without_first name (member ∷ members) =
    if bytes_eq name member.name then members else member ∷ members

-- The member of this name gets this value, or goes; a new one goes before the first whose name is
-- greater.
abbrev pub with_value : List ℕ → Option (List ℕ) → List Member → List Member
with_value name value [] = made name value
with_value name value (member ∷ members) =
    if bytes_less member.name name then member ∷ with_value name value members
    else made name value ++ without_first name (member ∷ members)
