-- The members of an object as a contract sees them.
use Rattle.std.specs.Prelude.{List, map}
use Rattle.json_text.specs.Compact.{Member as Pair}
use Rattle.json_text.specs.declared.text.Member.{Member}

-- a member as the pair of its name and its value
abbrev pub pair_of : Member → Pair
pair_of member = (member.name, member.value)

abbrev pub pairs : List Member → List Pair
pairs members = map pair_of members
