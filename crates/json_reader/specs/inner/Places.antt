-- Where members stand in a text that is written. Only contracts of private functions cite this.
use Rattle.std.specs.Prelude.{ℕ, ◌+◌, ◌-◌, ◌*◌, ◌/◌, ◌%◌, ◌≤◌, List, map, take, drop, length, slice_index, nat_lt, if◌then◌else◌, All}
use Rattle.json_text.specs.Characters.{quote}
use Rattle.json_text.specs.Compact.{Member}
use Rattle.json_reader.specs.declared.collapsing.Span.{Span}
pub use Rattle.json_reader.specs.declared.collapsing.MemberPlace.{MemberPlace}

abbrev pub cut : List ℕ → Span → List ℕ
cut bytes span = take (span.end - span.start) (drop span.start bytes)

-- the quoted name and the value of the member that stands there
abbrev pub entry : List ℕ → MemberPlace → Member
entry bytes place = (cut bytes place.name, cut bytes place.value)

abbrev pub entries : List ℕ → List MemberPlace → List Member
entries bytes places = map (entry bytes) places

-- a number below 256 by the length of a quoted name, its last byte and one in its middle
abbrev pub mark_of : List ℕ → ℕ
mark_of name = if nat_lt (length name) 2 then 0 else
    ((length name + 6 * slice_index name (length name - 2)) + 5 * slice_index name
    (length name / 2)) % 256

abbrev pub IsWithin : ℕ → Span → Type 0
IsWithin size span = (span.start ≤ span.end) × (span.end ≤ size)

abbrev pub IsPlaced : ℕ → MemberPlace → Type 0
IsPlaced size place = IsWithin size place.name × IsWithin size place.value

abbrev pub AreWithin : ℕ → List MemberPlace → Type 0
AreWithin size places = All (IsPlaced size) places

-- a member with its name quoted
abbrev pub quoted : Member → Member
quoted member = (quote member.0, member.1)
