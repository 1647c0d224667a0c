-- What is written of an object under way. Only contracts of private functions cite this. This
-- project's own.
use Rattle.std.specs.Prelude.{◌≡◌, ℕ, ◌+◌, List, [], ◌∷◌, ◌++◌, Option, None, Some, length, map}
use Rattle.std.specs.List.{join_with_byte}
use Rattle.json_text.specs.Compact.{Member, collapsed}
use Rattle.json_reader.specs.inner.Places.{entries, AreWithin}
use Rattle.json_reader.specs.declared.collapsing.Span.{Span}
use Rattle.json_reader.specs.declared.collapsing.MemberPlace.{MemberPlace}

-- a member whose name is quoted, and members between commas
abbrev pub pair_text : Member → List ℕ
pair_text member = member.0 ++ 58 ∷ member.1

abbrev pub pairs_text : List Member → List ℕ
pairs_text members = join_with_byte 44 (map pair_text members)

-- Of the innermost object that is open, or of the text outside objects: its text, where what stands
-- behind its last colon or comma begins, where the name of the member under way stands, where its
-- whole members stand, and how many arrays are open in it.
pub record Drafted : Type 0 where
  pub text : List ℕ
  pub from : ℕ
  pub name : Option Span
  pub places : List MemberPlace
  pub level : ℕ

-- nothing is written
abbrev pub fresh : Drafted
fresh = record { text = []; from = 0; name = None; places = []; level = 0 }

-- more is written
abbrev pub grown : Drafted → List ℕ → Drafted
grown draft more = record draft { text = draft.text ++ more }

-- the places with that of the member of this name and value, if there is a name
abbrev pub placed : List MemberPlace → Option Span → Span → List MemberPlace
placed places None value = places
placed places (Some name) value = places ++ record { name = name; value = value } ∷ []

-- the places where a member ends at an offset
abbrev pub placed_to : ℕ → Drafted → List MemberPlace
placed_to end draft = placed draft.places draft.name (record { start = draft.from; end = end })

-- a name ends at an offset, or a member
abbrev pub named : ℕ → Drafted → Drafted
named end draft =
    record draft { name = Some (record { start = draft.from; end = end }); from = end + 1 }

abbrev pub parted : ℕ → Drafted → Drafted
parted end draft = record draft { places = placed_to end draft; name = None; from = end + 1 }

-- The text is of whole members.
pub record IsWhole (draft : Drafted) : Type 0 where
  pub within : AreWithin (length draft.text) (placed_to (length draft.text) draft)
  pub written : draft.text ≡ pairs_text (entries draft.text (placed_to (length draft.text) draft))

-- what stands between the brackets of the object, each name once
abbrev pub closed : Drafted → List ℕ
closed draft = pairs_text (collapsed (entries draft.text (placed_to (length draft.text) draft)))
