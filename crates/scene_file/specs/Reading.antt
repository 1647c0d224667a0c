-- What a scene's text says, and its first fault. After Excalidraw's JSON schema; which forms are
-- accepted, and how missing keys are filled, is this project's own.
use Rattle.std.specs.Prelude.{◌≡◌, ℕ, List, [], Option, Some, None, drop, map, codes, bytes_eq, is_some, if◌then◌else◌}
use Rattle.std.specs.List.{AllByRecursion, list_all}
use Rattle.json_text.specs.Compact.{Member as Pair, array_text}
use Rattle.json_text.specs.Members.{pairs}
use Rattle.json_text.specs.Tree.{null_word}
use Rattle.json_text.specs.Value.{IsCompact, Stands}
use Rattle.json_reader.specs.Faults.{IsFirstFault}
use Rattle.scene_json.specs.Named.{value_at, AreSameMembers, HaveRisingNames}
use Rattle.index_repair.specs.Repair.{repaired}
use Rattle.elem.specs.ElementValue.{ElementValue}
use Rattle.elem.specs.Forms.{IsText, IsObject}
use Rattle.elem_read.specs.Elements.{AreRead, IsFirstFaulty}
use Rattle.index_repair.specs.Keyed.{index_of, keyed}
use Rattle.scene_file.specs.Heads.{Heading}
use Rattle.scene_file.specs.declared.scene.Scene.{Scene}
use Rattle.scene_file.specs.declared.fault.SceneFault.{SceneFault}
use Rattle.scene_file.specs.declared.fault.SceneFault.TheVariants.{Json, NotObject, NotScene, Elements, AppState, Files, Element}

-- the value under a name: null counts as missing
abbrev pub value_unless_null : List ℕ → List Pair → Option (List ℕ)
value_unless_null name members = elim (value_at name members)
    [ None ↦ None | Some value ↦ if bytes_eq value null_word then None else Some value ]

-- the items of an array, none where it is missing
abbrev pub HasItems : Option (List ℕ) → List (List ℕ) → Type 0
HasItems None items = items ≡ []
HasItems (Some value) items = AllByRecursion (IsCompact 127) items × (value ≡ array_text items)

-- the members of an object, none where it is missing
abbrev pub HasMembers : Option (List ℕ) → List Pair → Type 0
HasMembers None members = members ≡ []
HasMembers (Some value) members = IsObject value members

-- what counts as the source: a text, and nothing else
abbrev pub IsSource : Option (List ℕ) → Option (List ℕ) → Type 0
IsSource found None = (text : List ℕ) → IsText found text → ⊥
IsSource found (Some source) = IsText found source

-- The members say a scene's form: an object of type `excalidraw`.
abbrev pub IsScene : List Pair → Type 0
IsScene members = IsText (value_at (codes "type") members) (codes "excalidraw")

-- the elements as they are loaded: their keys are kept where each has one, else the keys of all are
-- repaired in the array's order
abbrev pub loaded : List ElementValue → List ElementValue
loaded elements =
    if list_all (λ (e : ElementValue). is_some e.index) elements then elements else keyed elements
    (repaired (map index_of elements))

-- The head says what the members do.
pub record IsHeadOf (members : List Pair) (head : Heading) : Type 0 where
  pub source : IsSource (value_at (codes "source") members) head.source
  pub settings : List Pair
  pub state : HasMembers (value_unless_null (codes "appState") members) settings
  pub state_ordered : HaveRisingNames (pairs head.app_state)
  pub app_state : AreSameMembers (pairs head.app_state) settings
  pub entries : List Pair
  pub table : HasMembers (value_unless_null (codes "files") members) entries
  pub files_ordered : HaveRisingNames head.files
  pub files : AreSameMembers head.files entries

-- This compact text is that of the scene.
pub record IsSceneOf (text : List ℕ) (scene : Scene) : Type 0 where
  pub members : List Pair
  pub object : IsObject text members
  pub kind : IsScene members
  pub head : IsHeadOf members scene.head
  pub values : List (List ℕ)
  pub items : HasItems (value_unless_null (codes "elements") members) values
  pub elements : List ElementValue
  pub read : AreRead values elements
  pub are_loaded : scene.elements ≡ loaded elements

-- The first fault of a compact text that is no scene's, in the order in which the faults are
-- listed.
abbrev pub IsSceneFault : List ℕ → SceneFault → Type 0
IsSceneFault text (Json fault) = ⊥
IsSceneFault text NotObject = (members : List Pair) → IsObject text members → ⊥
IsSceneFault text NotScene = (members : List Pair) × IsObject text members × (IsScene members → ⊥)
IsSceneFault text Elements =
    (members : List Pair) × IsObject text members × IsScene members
    × ((values : List (List ℕ)) → HasItems (value_unless_null (codes "elements") members) values
    → ⊥)
IsSceneFault text AppState =
    (members : List Pair) × IsObject text members × IsScene members
    × ((values : List (List ℕ)) × HasItems (value_unless_null (codes "elements") members) values)
    × ((settings : List Pair) → HasMembers (value_unless_null (codes "appState") members) settings
    → ⊥)
IsSceneFault text Files =
    (members : List Pair) × IsObject text members × IsScene members
    × ((values : List (List ℕ)) × HasItems (value_unless_null (codes "elements") members) values)
    × ((settings : List Pair) × HasMembers (value_unless_null (codes "appState") members) settings)
    × ((entries : List Pair) → HasMembers (value_unless_null (codes "files") members) entries → ⊥)
IsSceneFault text (Element place fault) =
    (members : List Pair) × IsObject text members × IsScene members
    × ((values : List (List ℕ)) × HasItems (value_unless_null (codes "elements") members) values
    × IsFirstFaulty values place fault)
    × ((settings : List Pair) × HasMembers (value_unless_null (codes "appState") members) settings)
    × ((entries : List Pair) × HasMembers (value_unless_null (codes "files") members) entries)

-- A scene stands at the front behind white space, in whatever spelling; the rest follows it.
pub record IsSceneAt (bytes : List ℕ) (scene : Scene) (rest : List ℕ) : Type 0 where
  pub text : List ℕ
  pub stands : Stands bytes text rest
  pub says : IsSceneOf text scene

-- The text behind the offset has this first fault: its JSON form has, or it has none there and is
-- no scene.
abbrev pub IsSceneFaultAt : List ℕ → ℕ → SceneFault → Type 0
IsSceneFaultAt bytes at (Json fault) = IsFirstFault bytes at fault
IsSceneFaultAt bytes at fault =
    (text rest : List ℕ) × Stands (drop at bytes) text rest × IsSceneFault text fault
