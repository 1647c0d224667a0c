-- Walks over the items of an array that stands in a text.
use Rattle.std.specs.Prelude.{◌≡◌, ◌≢◌, ℕ, List, ◌∷◌, ◌++◌, Option, Some, None, All, drop, map}
use Rattle.std.specs.List.{AllByRecursion}
use Rattle.std.specs.Str.{IsUtf8}
use Rattle.json_text.specs.Tree.{array, object}
use Rattle.json_text.specs.Compact.{Member as Pair, member_text, array_text, object_text}
use Rattle.json_text.specs.Members.{pairs}
use Rattle.json_text.specs.Parts.{AreMembers}
use Rattle.json_text.specs.Value.{IsCompact}
use Rattle.scene_json.specs.Passes.{left_text, behind_item}
use Rattle.scene_json.specs.declared.parts.Item.{Item}
use Rattle.scene_json.specs.declared.parts.Item.TheVariants.{Object, Other}

-- the text, and the offset of the next item, or of the closing bracket where none is left
pub record Walk : Type 0 where
  pub text : List ℕ
  pub at : ℕ

-- These items are left, and the rest stands behind the closing bracket.
pub record Leaves (walk : Walk) (items : List (List ℕ)) (rest : List ℕ) : Type 0 where
  pub compact : AllByRecursion (IsCompact 127) items
  pub here : drop walk.at walk.text ≡ left_text array rest items

-- These items are left.
abbrev pub AreLeft : Walk → List (List ℕ) → Type 0
AreLeft walk items = (rest : List ℕ) × Leaves walk items rest

-- Behind the array these members of an object stand.
pub record AreBehind (walk : Walk) (members : List Pair) : Type 0 where
  pub named : AllByRecursion (λ (m : Pair). IsUtf8 m.0) members
  pub valued : AllByRecursion (λ (m : Pair). IsCompact 127 m.1) members
  pub items : List (List ℕ)
  pub rest : List ℕ
  pub left : Leaves walk items (behind_item object rest (map member_text members))

-- The item is an object with these members, or is no object.
abbrev pub IsTakenApart : List ℕ → Item → Type 0
IsTakenApart item Other = (members : List Pair) → item ≢ object_text members
IsTakenApart item (Object members) =
    AreMembers 127 (pairs members) × (item ≡ object_text (pairs members))

-- The object's members are taken up to an array of this name, whose items the walk is over, or all
-- where there is none.
abbrev pub AreTakenTo : List ℕ → List ℕ → List Pair → Option Walk → Type 0
AreTakenTo name value taken None =
    AreMembers 127 taken × (value ≡ object_text taken)
    × All (λ (m : Pair). (items : List (List ℕ)) → m ≢ (name, array_text items)) taken
AreTakenTo name value taken (Some walk) =
    (items : List (List ℕ)) × (behind : List Pair)
    × AreMembers 127 (taken ++ (name, array_text items) ∷ behind)
    × (value ≡ object_text (taken ++ (name, array_text items) ∷ behind)) × AreLeft walk items
    × AreBehind walk behind
