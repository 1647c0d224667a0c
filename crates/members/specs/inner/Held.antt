-- The members, however they are held.
use Rattle.std.specs.Prelude.{List}
use Rattle.json_text.specs.declared.text.Member.{Member}
use Rattle.members.specs.declared.members.Held.{Held}
use Rattle.members.specs.declared.members.Held.TheVariants.{Apart, Standing}

abbrev pub members_of : Held → List Member
members_of (Apart members) = members.items
members_of (Standing members) = members
