-- How the table is laid between given members.
-- Only this crate's own bodies and proofs need it.
use Rattle.std.specs.Prelude.{◌≡◌, ◌≢◌, ℕ, List, [], ◌∷◌, Option, Some, None, map, bytes_eq}
use Rattle.std.specs.List.{AllByRecursion, IsDistinct}
use Rattle.std.specs.List.Sorted.{IsPermutation}
use Rattle.std.specs.Str.{IsUtf8}
use Rattle.json_text.specs.Characters.{quote}
use Rattle.json_text.specs.Compact.{Member as Pair, array_text}
use Rattle.json_text.specs.Members.{pairs}
use Rattle.json_text.specs.Parts.{names_of}
use Rattle.json_text.specs.declared.text.Member.{Member}
use Rattle.scene_json.specs.Named.{value_at, HaveRisingNames}
use Rattle.scene_json.specs.TheOne.{IsTheOne}
use Rattle.restore_table.specs.declared.table.Row.{Row}
use Rattle.restore_table.specs.Restored.{HasOldListing, listing_name, old_name, listing_text}
use Rattle.restore_table.specs.Table.{defaults}
use Rattle.restore_table.specs.Merged.{merged}

abbrev pub row_pair : Row → Pair
row_pair row = (row.name.now, row.default.now)

-- The names rise, from this one on.
abbrev pub RiseAfter : List ℕ → List Pair → Type 0
RiseAfter last members = HaveRisingNames ((last, []) ∷ members)

-- Members that rise from a name on, between which no row has a place and of which none takes the
-- value of its row.
pub record IsWholeAfter (last : List ℕ) (rows members : List Pair) : Type 0 where
  pub rise : RiseAfter last members
  pub whole : merged members rows ≡ members

-- Members that stay as they are: they rise, lack nothing of the table, and have no old listing.
pub record IsWhole (members : List Pair) : Type 0 where
  pub beside : IsWholeAfter [] defaults members
  pub gone : value_at old_name members ≡ None

-- The members in the order of their names, if these differ, with the table between them.
pub record AreCompleted (members completed : List Member) : Type 0 where
  pub ordered : List Member
  pub moved : IsPermutation members ordered
  pub rise : IsDistinct bytes_eq (names_of (pairs ordered)) → HaveRisingNames (pairs ordered)
  pub made : pairs completed ≡ merged (pairs ordered) defaults

-- The value is an array of these texts.
abbrev pub AreOldIds : List ℕ → List (List ℕ) → Type 0
AreOldIds value ids = AllByRecursion IsUtf8 ids × (value ≡ array_text (map quote ids))

-- the listing that takes the place of what is given there
abbrev pub listing_over : Option (List (List ℕ)) → Option (List ℕ) → Option (List ℕ)
listing_over (Some ids) given = Some (listing_text ids)
listing_over None given = given

-- The members with their old listing, if they have one, in its present form.
pub record AreUpdated (members updated : List Pair) : Type 0 where
  pub ids : Option (List (List ℕ))
  pub old : IsTheOne (HasOldListing members) ids
  pub distinct : IsDistinct bytes_eq (names_of updated)
  pub gone : value_at old_name updated ≡ None
  pub listing : value_at listing_name updated ≡ listing_over ids (value_at listing_name members)
  pub others : (name : List ℕ) → name ≢ old_name → name ≢ listing_name
      → value_at name updated ≡ value_at name members
