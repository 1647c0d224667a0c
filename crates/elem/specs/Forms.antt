-- What the value of a header member may be, and what it stands for: each form is a relation between
-- what was found under the member's name and what that is read as. After Excalidraw's element
-- types; the forms that are accepted, and what counts as none, are this project's own.
use Rattle.std.specs.Prelude.{◌≡◌, ◌≢◌, ◌⊎◌, ℕ, ◌≤◌, List, [], ◌∷◌, Bool, true, false, Option, Some, None, map, codes, decimal, bytes_eq}
use Rattle.std.specs.Str.{IsUtf8}
use Rattle.std.specs.List.{AllByRecursion, list_any}
use Rattle.json_text.specs.Characters.{quote}
use Rattle.json_text.specs.Tree.{null_word}
use Rattle.json_text.specs.Compact.{Member as Pair, array_text, object_text}
use Rattle.json_text.specs.Members.{pairs}
use Rattle.json_text.specs.Parts.{AreMembers}
use Rattle.json_text.specs.Value.{IsCompact}
use Rattle.json_text.specs.declared.text.Member.{Member}
use Rattle.scene_json.specs.Named.{value_at}
use Rattle.frac_keys.specs.Keys.{is_key}
use Rattle.frac_keys.specs.Rising.{are_rising}
use Rattle.elem.specs.declared.kind.Kind.{Kind}
use Rattle.elem.specs.declared.parts.BoundRef.{BoundRef}
use Rattle.elem.specs.declared.parts.Binding.{Binding}
use Rattle.elem.specs.Facts.{greatest_whole, IsKind, names}
use Rattle.elem.specs.Texts.{kind_name, role_name, truth_text}

-- what members have under a name, where they have something
abbrev pub Find : Type 0
Find = List ℕ → Option (List ℕ)

abbrev pub find_in : List Pair → Find
find_in members name = value_at name members

-- a text
abbrev pub IsText : Option (List ℕ) → List ℕ → Type 0
IsText found text = IsUtf8 text × (found ≡ Some (quote text))

-- a text that isn't empty
abbrev pub IsId : Option (List ℕ) → List ℕ → Type 0
IsId found id = IsText found id × (id ≢ [])

-- the name of a kind
abbrev pub IsKindName : Option (List ℕ) → Kind → Type 0
IsKindName found kind = IsText found (kind_name kind) × IsKind kind

-- a whole number in plain decimal within the limit
abbrev pub IsWholeNumber : Option (List ℕ) → ℕ → Type 0
IsWholeNumber found number = (number ≤ greatest_whole) × (found ≡ Some (decimal number))

-- true or false
abbrev pub IsTruth : Option (List ℕ) → Bool → Type 0
IsTruth found truth = found ≡ Some (truth_text truth)

-- null, or missing
abbrev pub IsNull : Option (List ℕ) → Type 0
IsNull found = (found ≡ None) ⊎ (found ≡ Some null_word)

-- null, or a text
abbrev pub IsTextOrNull : Option (List ℕ) → Option (List ℕ) → Type 0
IsTextOrNull found None = IsNull found
IsTextOrNull found (Some text) = IsText found text

-- null, or a text, which counts as none unless it is a key
abbrev pub IsKeyOrNull : Option (List ℕ) → Option (List ℕ) → Type 0
IsKeyOrNull found None =
    IsNull found ⊎ ((text : List ℕ) × IsText found text × (is_key text ≡ false))
IsKeyOrNull found (Some key) = IsText found key × (is_key key ≡ true)

-- an array of texts
abbrev pub AreTexts : Option (List ℕ) → List (List ℕ) → Type 0
AreTexts found texts = AllByRecursion IsUtf8 texts × (found ≡ Some (array_text (map quote texts)))

-- The value is the object of these members.
pub record IsObject (value : List ℕ) (members : List Pair) : Type 0 where
  pub are_members : AreMembers 127 members
  pub spelled : value ≡ object_text members

-- An object with a text `id` and a `type` of `arrow` or `text`; its further members play no part.
pub record IsListingEntry (item : List ℕ) (entry : BoundRef) : Type 0 where
  pub members : List Pair
  pub object : IsObject item members
  pub id : IsText (value_at (codes "id") members) entry.id
  pub role : IsText (value_at (codes "type") members) (role_name entry.role)

-- the entries among the items, in their order; an item of another form is dropped
abbrev pub AreListingEntries : List (List ℕ) → List BoundRef → Type 0
AreListingEntries [] entries = entries ≡ []
AreListingEntries (item ∷ items) entries =
    ((entry : BoundRef) × (others : List BoundRef) × (entries ≡ entry ∷ others)
    × IsListingEntry item entry
    × AreListingEntries items others)
    ⊎ (((entry : BoundRef) → IsListingEntry item entry → ⊥) × AreListingEntries items entries)

-- an array
abbrev pub IsListing : Option (List ℕ) → List BoundRef → Type 0
IsListing found entries =
    (items : List (List ℕ)) × AllByRecursion (IsCompact 127) items
    × (found ≡ Some (array_text items))
    × AreListingEntries items entries

-- All that is found but under the names of a header, with rising names.
pub record AreOthers (is_header : List ℕ → Bool) (find : Find) (others : List Member) : Type 0 where
  pub rise : are_rising (names others) ≡ true
  pub free : list_any is_header (names others) ≡ false
  pub same : (name : List ℕ) → is_header name ≡ false → value_at name (pairs others) ≡ find name

-- An object with a text `elementId`; its further members are kept.
pub record IsBindingObject (found : Option (List ℕ)) (binding : Binding) : Type 0 where
  pub value : List ℕ
  pub members : List Pair
  pub found_is : found ≡ Some value
  pub object : IsObject value members
  pub target : IsText (value_at (codes "elementId") members) binding.target
  pub rest : AreOthers (bytes_eq (codes "elementId")) (find_in members) binding.rest

-- An object without a text `elementId`.
pub record IsUnbound (found : Option (List ℕ)) : Type 0 where
  pub value : List ℕ
  pub members : List Pair
  pub found_is : found ≡ Some value
  pub object : IsObject value members
  pub free : (text : List ℕ) → IsText (value_at (codes "elementId") members) text → ⊥

-- null, or an object, which counts as none without a text `elementId`
abbrev pub IsBindingOrNull : Option (List ℕ) → Option Binding → Type 0
IsBindingOrNull found None = IsNull found ⊎ IsUnbound found
IsBindingOrNull found (Some binding) = IsBindingObject found binding
