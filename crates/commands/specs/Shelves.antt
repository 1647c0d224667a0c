-- Libraries that are made one, and an item of one that is inserted into a scene. This project's
-- own.
use Rattle.std.specs.Prelude.{◌≡◌, ◌≢◌, ◌⊎◌, ℕ, ◌+◌, ◌≤◌, List, [], ◌++◌, true, false, None, Contains, length, drop}
use Rattle.json_text.specs.Characters.{is_blank}
use Rattle.json_text.specs.Value.{Stands}
use Rattle.json_reader.specs.Faults.{IsFirstFault}
use Rattle.json_reader.specs.declared.fault.JsonFault.{JsonFault}
use Rattle.input_texts.specs.Texts.{TextsLead}
use Rattle.library.specs.Best.{IsBest}
use Rattle.library.specs.Inserting.{clip_of}
use Rattle.library.specs.Libraries.{HaveItems, IsLibraryOfAll}
use Rattle.library.specs.Reading.{IsLibraryOf, IsLibFault}
use Rattle.library.specs.declared.fault.LibFault.{LibFault}
use Rattle.library.specs.declared.item.Item.{Item}
use Rattle.scene_file.specs.declared.scene.Scene.{Scene}
use Rattle.scene_file.specs.declared.fault.SceneFault.TheVariants.{Json}
use Rattle.commands.specs.Faults.{newline}
use Rattle.commands.specs.Fronts.{HasFront, IsSecondRefusal}
use Rattle.commands.specs.Pastes.{IsExisting, IsPastedAs}
use Rattle.commands.specs.declared.status.InputRefusal.{InputRefusal}
use Rattle.commands.specs.declared.status.InputRefusal.TheVariants as refusal
use Rattle.commands.specs.declared.words.Insertion.{Insertion}

-- The input is values with these compact texts, of which there is one at least, and then white
-- space.
pub record HasTexts (bytes : List ℕ) (texts : List (List ℕ)) : Type 0 where
  pub some : texts ≢ []
  pub rest : List ℕ
  pub lead : TextsLead bytes texts rest
  pub space : is_blank rest ≡ true

-- The input is library texts, and this is the text of the library of all their best items, and a
-- newline.
pub record IsShelved (bytes text : List ℕ) : Type 0 where
  pub texts : List (List ℕ)
  pub holds : HasTexts bytes texts
  pub written : List ℕ
  pub library : IsLibraryOfAll texts written
  pub ended : text ≡ written ++ newline

-- Libraries lead up to this offset, so many of them, and behind them a further text is to stand:
-- there are none, or more than white space is left.
pub record HasLibrariesTo (bytes : List ℕ) (start count : ℕ) : Type 0 where
  pub texts : List (List ℕ)
  pub items : List Item
  pub read : HaveItems texts items
  pub within : start ≤ length bytes
  pub lead : TextsLead bytes texts (drop start bytes)
  pub counted : count ≡ length texts
  pub begun : (texts ≡ []) ⊎ (is_blank (drop start bytes) ≡ false)

-- The text with this number, counted from 1, is the first that is no value, or no library, with
-- this fault.
abbrev pub HasFaultyValue : List ℕ → ℕ → JsonFault → Type 0
HasFaultyValue bytes number fault =
    (start : ℕ) × (count : ℕ) × (number ≡ count + 1) × HasLibrariesTo bytes start count
    × IsFirstFault bytes start fault

abbrev pub HasFaultyLibrary : List ℕ → ℕ → LibFault → Type 0
HasFaultyLibrary bytes number fault =
    (start : ℕ) × (count : ℕ) × (number ≡ count + 1) × HasLibrariesTo bytes start count
    × ((text : List ℕ) × (rest : List ℕ) × Stands (drop start bytes) text rest
    × IsLibFault text fault)

-- The first fault of an input that is to be one library at least: the first text with a fault has
-- it.
abbrev pub IsShelfRefusal : List ℕ → InputRefusal → Type 0
IsShelfRefusal bytes found =
    ((number : ℕ) × (fault : JsonFault) × (found ≡ refusal.Text number (Json fault))
    × HasFaultyValue bytes number fault)
    ⊎ ((number : ℕ) × (fault : LibFault) × (found ≡ refusal.Library number fault)
    × HasFaultyLibrary bytes number fault)

-- The text is that of a library; it is none, and is refused so.
abbrev pub IsLibrary : List ℕ → Type 0
IsLibrary text = (items : List Item) × IsLibraryOf text items

abbrev pub IsNoLibrary : List ℕ → InputRefusal → Type 0
IsNoLibrary text found =
    (fault : LibFault) × (found ≡ refusal.Library 2 fault) × IsLibFault text fault

-- The input is a scene, a library of these items and white space.
abbrev pub HasSceneAndLibrary : List ℕ → Scene → List Item → Type 0
HasSceneAndLibrary bytes scene items =
    (text : List ℕ) × HasFront bytes scene text None × IsLibraryOf text items

-- The best of the items that have this id.
abbrev pub IsBestOfId : List Item → List ℕ → Item → Type 0
IsBestOfId items id item = IsBest items item × (item.id ≡ id)

-- The input is a scene and a library, and this is the text of the scene with copies of the elements
-- of the library's best item of this id, as they are pasted.
pub record IsInserted (insertion : Insertion) (bytes text : List ℕ) : Type 0 where
  pub scene : Scene
  pub items : List Item
  pub holds : HasSceneAndLibrary bytes scene items
  pub item : Item
  pub best : IsBestOfId items insertion.item item
  pub is : IsPastedAs insertion.prefix scene (clip_of item) text

-- The input is a scene and a library that has no item of this id.
pub record HasNoItem (id bytes : List ℕ) : Type 0 where
  pub scene : Scene
  pub items : List Item
  pub holds : HasSceneAndLibrary bytes scene items
  pub none : (item : Item) → Contains items item → item.id ≡ id → ⊥

-- The input is a scene and a library, and the id is stored that the copy of the element at this
-- place of its best item of this id would have.
pub record HasExistingOfItem (insertion : Insertion) (bytes : List ℕ) (place : ℕ) : Type 0 where
  pub scene : Scene
  pub items : List Item
  pub holds : HasSceneAndLibrary bytes scene items
  pub item : Item
  pub best : IsBestOfId items insertion.item item
  pub is : IsExisting insertion.prefix scene (clip_of item) place

-- Why nothing is inserted: the first fault of the input; where it has none, that the library has no
-- such item; else the first copy whose id is stored.
abbrev pub IsInsertRefusal : Insertion → List ℕ → InputRefusal → Type 0
IsInsertRefusal insertion bytes found =
    IsSecondRefusal IsLibrary IsNoLibrary bytes found
    ⊎ (((found ≡ refusal.NoItem) × HasNoItem insertion.item bytes)
    ⊎ ((place : ℕ) × (found ≡ refusal.Exists place) × HasExistingOfItem insertion bytes place))
