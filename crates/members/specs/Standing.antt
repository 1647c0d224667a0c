-- Members that stand in a text.
use Rattle.std.specs.Prelude.{◌≡◌, ℕ, ◌+◌, ◌-◌, ◌<◌, ◌≤◌, List, [], length, take, drop, slice_index_or}
use Rattle.std.specs.Str.{IsUtf8}
use Rattle.json_text.specs.Compact.{member_text}
use Rattle.json_text.specs.Members.{pair_of}
use Rattle.json_text.specs.Value.{IsCompact}
use Rattle.json_text.specs.declared.text.Member.{Member}
use Rattle.members.specs.declared.standing.Place.{Place}

-- what stands between two offsets
abbrev pub cut : List ℕ → ℕ → ℕ → List ℕ
cut text start end = take (end - start) (drop start text)

-- the member at a place of a text
abbrev pub member_at : List ℕ → Place → Member
member_at text p = record {
  name = cut text (p.start + 1) (p.colon - 1);
  value = cut text (p.colon + 1) p.end;
}

-- A member stands at the place: its name has no escape, so that its quote is the name between
-- quotation marks.
pub record Stands (text : List ℕ) (p : Place) : Type 0 where
  pub named : p.start + 2 ≤ p.colon
  pub valued : p.colon < p.end
  pub within : p.end ≤ length text
  pub same : cut text p.start p.end ≡ member_text (pair_of (member_at text p))
  pub utf8 : IsUtf8 (member_at text p).name
  pub compact : IsCompact 128 (member_at text p).value

-- the member at an index
abbrev pub nth : List Member → ℕ → Member
nth members index = slice_index_or members index (record { name = []; value = [] })
