-- What a clip's text says, and its first fault. After Excalidraw's clipboard; which forms are
-- accepted, and the order of the faults, is this project's own.
use Rattle.std.specs.Prelude.{◌≡◌, ℕ, List, Some, None, not, filter, codes}
use Rattle.json_text.specs.Compact.{Member as Pair}
use Rattle.json_text.specs.Members.{pairs}
use Rattle.scene_json.specs.Named.{value_at}
use Rattle.elem.specs.Forms.{IsText, IsObject}
use Rattle.elem_read.specs.Elements.{IsFirstFaulty}
use Rattle.scene_file.specs.Reading.{value_unless_null, HasItems, HasMembers}
use Rattle.clips.specs.Placed.{elements_in, places_in, first_repeat, AreReadFrom}
use Rattle.clips.specs.declared.clip.Clip.{Clip}
use Rattle.clips.specs.declared.fault.ClipFault.{ClipFault}
use Rattle.clips.specs.declared.fault.ClipFault.TheVariants.{NotObject, NotClip, Elements, Files, Element, Repeated}
use Rattle.clips.specs.declared.placed.Placed.{Placed}

-- The members are those of a clip: an object of type `excalidraw/clipboard`.
abbrev pub IsClipboard : List Pair → Type 0
IsClipboard members = IsText (value_at (codes "type") members) (codes "excalidraw/clipboard")

-- the elements that aren't deleted
abbrev pub live_in : List Placed → List Placed
live_in placed = filter (λ (p : Placed). not p.element.deleted) placed

-- This compact text is that of the clip.
pub record IsClipOf (text : List ℕ) (clip : Clip) : Type 0 where
  pub members : List Pair
  pub object : IsObject text members
  pub kind : IsClipboard members
  pub values : List (List ℕ)
  pub items : HasItems (value_unless_null (codes "elements") members) values
  pub files : HasMembers (value_unless_null (codes "files") members) (pairs clip.files)
  pub placed : List Placed
  pub read : AreReadFrom 0 values placed
  pub distinct : first_repeat (live_in placed) ≡ None
  pub elements : clip.elements ≡ elements_in (live_in placed)
  pub places : clip.places ≡ places_in (live_in placed)

-- The members are those of a clip, and these are the items of its array.
pub record IsClipWith (text : List ℕ) (members : List Pair) (values : List (List ℕ)) : Type 0 where
  pub object : IsObject text members
  pub kind : IsClipboard members
  pub items : HasItems (value_unless_null (codes "elements") members) values

-- the first fault among the elements: one has a fault, or one that isn't deleted has the id of an
-- earlier such one
abbrev pub IsElementsFault : List (List ℕ) → ClipFault → Type 0
IsElementsFault values (Element place fault) = IsFirstFaulty values place fault
IsElementsFault values (Repeated place) =
    (placed : List Placed) × AreReadFrom 0 values placed
    × (first_repeat (live_in placed) ≡ Some place)
IsElementsFault values other = ⊥

-- The first fault of a compact text that is no clip's, in the order in which the faults are listed.
abbrev pub IsClipFault : List ℕ → ClipFault → Type 0
IsClipFault text NotObject = (members : List Pair) → IsObject text members → ⊥
IsClipFault text NotClip = (members : List Pair) × IsObject text members × (IsClipboard members → ⊥)
IsClipFault text Elements =
    (members : List Pair) × IsObject text members × IsClipboard members
    × ((values : List (List ℕ)) → HasItems (value_unless_null (codes "elements") members) values
    → ⊥)
IsClipFault text Files =
    (members : List Pair) × (values : List (List ℕ)) × IsClipWith text members values
    × ((files : List Pair) → HasMembers (value_unless_null (codes "files") members) files → ⊥)
IsClipFault text (Element place fault) =
    (members : List Pair) × (values : List (List ℕ)) × IsClipWith text members values
    × ((files : List Pair) × HasMembers (value_unless_null (codes "files") members) files)
    × IsElementsFault values (Element place fault)
IsClipFault text (Repeated place) =
    (members : List Pair) × (values : List (List ℕ)) × IsClipWith text members values
    × ((files : List Pair) × HasMembers (value_unless_null (codes "files") members) files)
    × IsElementsFault values (Repeated place)
