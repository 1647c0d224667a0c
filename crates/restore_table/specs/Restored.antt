-- The members of an element whose missing ones are filled in. Excalidraw's restore; that null
-- counts as missing for the members of the table alone, and the order of names, are this project's
-- own.
use Rattle.std.specs.Prelude.{◌≡◌, ◌≢◌, ℕ, List, [], ◌∷◌, Option, Some, None, map, codes, bytes_eq, if◌then◌else◌}
use Rattle.std.specs.List.{AllByRecursion}
use Rattle.std.specs.Str.{IsUtf8}
use Rattle.json_text.specs.Characters.{quote}
use Rattle.json_text.specs.Compact.{Member as Pair, array_text, object_text}
use Rattle.json_text.specs.Tree.{null_word}
use Rattle.scene_json.specs.Named.{value_at, HaveRisingNames}
use Rattle.scene_json.specs.TheOne.{IsTheOne}
use Rattle.restore_table.specs.Table.{defaults}

-- the member that lists what is bound to an element, and the one in which older files list the ids
-- of bound arrows
abbrev pub listing_name : List ℕ
listing_name = codes "boundElements"

abbrev pub old_name : List ℕ
old_name = codes "boundElementIds"

-- the value of a member that has this default, if any, and is given this value, if any: the given
-- one where it is there and isn't null or there is no default
abbrev pub filled : Option (List ℕ) → Option (List ℕ) → Option (List ℕ)
filled None given = given
filled (Some default) None = Some default
filled (Some default) (Some value) = if bytes_eq value null_word then Some default else Some value

-- what these members, the table behind them, have at a name
abbrev pub filled_at : List ℕ → List Pair → Option (List ℕ)
filled_at name members = filled (value_at name defaults) (value_at name members)

-- The members have an old listing of these ids: an array of texts.
pub record HasOldListing (members : List Pair) (ids : List (List ℕ)) : Type 0 where
  pub texts : AllByRecursion IsUtf8 ids
  pub named : value_at old_name members ≡ Some (array_text (map quote ids))

-- the entry that lists an arrow by its id, and the listing of arrows
abbrev pub arrow_text : List ℕ → List ℕ
arrow_text id = object_text ((codes "id", quote id) ∷ (codes "type", quote (codes "arrow")) ∷ [])

abbrev pub listing_text : List (List ℕ) → List ℕ
listing_text ids = array_text (map arrow_text ids)

-- the listing: that of the ids of an old one, if there is one, in place of whatever is given
abbrev pub listing_at : Option (List (List ℕ)) → List Pair → Option (List ℕ)
listing_at (Some ids) members = Some (listing_text ids)
listing_at None members = filled_at listing_name members

-- Of these members those are the restored ones: their names rise; an old listing is gone and its
-- ids are listed as arrows; and each other name has what is given there, or its default.
pub record AreRestored (members restored : List Pair) : Type 0 where
  pub rise : HaveRisingNames restored
  pub ids : Option (List (List ℕ))
  pub old : IsTheOne (HasOldListing members) ids
  pub gone : value_at old_name restored ≡ None
  pub listing : value_at listing_name restored ≡ listing_at ids members
  pub others : (name : List ℕ) → name ≢ old_name → name ≢ listing_name
      → value_at name restored ≡ filled_at name members

-- Each member of the table is there, and is null only if that is its default; and there is no old
-- listing.
pub record LackNothing (members : List Pair) : Type 0 where
  pub gone : value_at old_name members ≡ None
  pub each_filled : (name default : List ℕ) → value_at name defaults ≡ Some default →
      (value : List ℕ) × (value_at name members ≡ Some value)
      × (value ≡ null_word → default ≡ null_word)
