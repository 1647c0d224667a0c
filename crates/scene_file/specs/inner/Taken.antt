-- What is taken of a scene's object before it is known to be a scene's. Only contracts of private
-- functions cite this.
use Rattle.std.specs.Prelude.{◌≡◌, ℕ, List, Option, Result, Ok, Err, false, codes, bytes_eq}
use Rattle.json_text.specs.Compact.{Member as Pair}
use Rattle.json_text.specs.Parts.{AreMembers}
use Rattle.scene_json.specs.Named.{value_at}
use Rattle.elem.specs.ElementValue.{ElementValue}
use Rattle.elem.specs.Forms.{IsObject}
use Rattle.elem_read.specs.Elements.{AreRead, IsFirstFaulty}
use Rattle.elem_read.specs.declared.fault.FaultyElement.{FaultyElement}
use Rattle.scene_file.specs.Reading.{value_unless_null, HasItems}
use Rattle.scene_file.specs.declared.reading.Elements.{Elements}
use Rattle.scene_file.specs.declared.reading.Elements.TheVariants.{Read, NoArray}

-- The values are read as these elements, or the first faulty one is this.
abbrev pub HaveCome : List (List ℕ) → Result (List ElementValue) FaultyElement → Type 0
HaveCome values (Ok elements) = AreRead values elements
HaveCome values (Err faulty) = IsFirstFaulty values faulty.place faulty.fault

-- These are the items under `elements`, and this came of them; or no items are there.
abbrev pub AreItemsRead : Option (List ℕ) → Elements → Type 0
AreItemsRead value NoArray = (values : List (List ℕ)) → HasItems value values → ⊥
AreItemsRead value (Read read) =
    (values : List (List ℕ)) × HasItems value values × HaveCome values read

-- The text is that of an object, which has these members but for its elements, of which this came.
pub record IsTaken (text : List ℕ) (found : List Pair)
    (read : Elements) : Type 0 where
  pub members : List Pair
  pub object : IsObject text members
  pub are : AreMembers 127 found
  pub others : (name : List ℕ) → bytes_eq name (codes "elements") ≡ false
      → value_at name found ≡ value_at name members
  pub elements : AreItemsRead (value_unless_null (codes "elements") members) read
