-- What an item's text and a library's text say, and their first faults. After Excalidraw's library
-- files of version 2; which forms are accepted, what is missing counts as, and the order of the
-- faults is this project's own.
use Rattle.std.specs.Prelude.{◌≡◌, ◌⊎◌, ◌<◌, ℕ, zero, suc, List, [], ◌∷◌, Bool, true, false, Option, Some, None, codes}
use Rattle.std.specs.List.{AllByRecursion}
use Rattle.json_text.specs.Characters.{quote}
use Rattle.json_text.specs.Compact.{Member as Pair, array_text}
use Rattle.json_text.specs.Value.{IsCompact}
use Rattle.scene_json.specs.Named.{value_at}
use Rattle.elem.specs.ElementValue.{ElementValue}
use Rattle.elem.specs.Forms.{IsId, IsNull, IsObject, IsText, IsTextOrNull, IsWholeNumber}
use Rattle.elem_read.specs.Elements.{IsFirstFaulty}
use Rattle.elem_read.specs.Faults.{Lacks}
use Rattle.clips.specs.Placed.{elements_in, first_repeat, AreReadFrom}
use Rattle.clips.specs.declared.placed.Placed.{Placed}
use Rattle.library.specs.Items.{item_text, status_word}
use Rattle.library.specs.declared.fault.ItemFault.{ItemFault}
use Rattle.library.specs.declared.fault.ItemFault.TheVariants.{NotObject, Id, Status, Created, Name, Elements, Element, Repeated}
use Rattle.library.specs.declared.fault.LibFault.{LibFault}
use Rattle.library.specs.declared.fault.LibFault.TheVariants as library
use Rattle.library.specs.declared.item.Item.{Item}

-- the word for whether an item is published; where it is missing or null it isn't
abbrev pub IsStatus : Option (List ℕ) → Bool → Type 0
IsStatus found true = found ≡ Some (quote (status_word true))
IsStatus found false = IsNull found ⊎ (found ≡ Some (quote (status_word false)))

-- the time at which an item was made, a whole number; missing or null is 0
abbrev pub IsTime : Option (List ℕ) → ℕ → Type 0
IsTime found time = (IsNull found × (time ≡ 0)) ⊎ IsWholeNumber found time

-- an array of these items
abbrev pub IsArray : Option (List ℕ) → List (List ℕ) → Type 0
IsArray found values = AllByRecursion (IsCompact 127) values × (found ≡ Some (array_text values))

-- The elements that the values are read as; their ids are distinct.
pub record AreElementsOf (values : List (List ℕ)) (elements : List ElementValue) : Type 0 where
  pub placed : List Placed
  pub read : AreReadFrom 0 values placed
  pub distinct : first_repeat placed ≡ None
  pub elements_are : elements ≡ elements_in placed

-- The members say this item: a row a member.
pub record IsItemOf (members : List Pair) (item : Item) : Type 0 where
  pub id : IsId (value_at (codes "id") members) item.id
  pub status : IsStatus (value_at (codes "status") members) item.published
  pub created : IsTime (value_at (codes "created") members) item.created
  pub name : IsTextOrNull (value_at (codes "name") members) item.name
  pub values : List (List ℕ)
  pub array : IsArray (value_at (codes "elements") members) values
  pub elements : AreElementsOf values item.elements

-- The value says this item.
pub record IsItemIn (value : List ℕ) (item : Item) : Type 0 where
  pub members : List Pair
  pub object : IsObject value members
  pub says : IsItemOf members item

-- Reading the item's text gives the item.
abbrev pub IsWholeItem : Item → Type 0
IsWholeItem item = IsItemIn (item_text item) item

-- the first fault among the elements: one has a fault, or one has the id of an earlier one
abbrev pub IsElementsFault : List (List ℕ) → ItemFault → Type 0
IsElementsFault values (Element place fault) = IsFirstFaulty values place fault
IsElementsFault values (Repeated place) =
    (placed : List Placed) × AreReadFrom 0 values placed × (first_repeat placed ≡ Some place)
IsElementsFault values other = ⊥

-- Where each fault comes among the members of an item: a row a fault. The first is no fault of a
-- member.
abbrev pub Fails : ItemFault → List Pair → Type 0
Fails NotObject members = ⊥
Fails Id members = Lacks (IsId (value_at (codes "id") members))
Fails Status members = Lacks (IsStatus (value_at (codes "status") members))
Fails Created members = Lacks (IsTime (value_at (codes "created") members))
Fails Name members = Lacks (IsTextOrNull (value_at (codes "name") members))
Fails Elements members = Lacks (IsArray (value_at (codes "elements") members))
Fails (Element place fault) members =
    (values : List (List ℕ)) × IsArray (value_at (codes "elements") members) values
    × IsElementsFault values (Element place fault)
Fails (Repeated place) members =
    (values : List (List ℕ)) × IsArray (value_at (codes "elements") members) values
    × IsElementsFault values (Repeated place)

-- the order of the faults
abbrev pub place_of : ItemFault → ℕ
place_of NotObject = 0
place_of Id = 1
place_of Status = 2
place_of Created = 3
place_of Name = 4
place_of Elements = 5
place_of (Element place fault) = 6
place_of (Repeated place) = 7

-- This fault comes, and none before it.
pub record IsFirst (members : List Pair) (fault : ItemFault) : Type 0 where
  pub comes : Fails fault members
  pub first : (other : ItemFault) → place_of other < place_of fault → Fails other members → ⊥

-- The first fault of a value that says no item.
abbrev pub IsItemFault : List ℕ → ItemFault → Type 0
IsItemFault value NotObject = (members : List Pair) → IsObject value members → ⊥
IsItemFault value fault = (members : List Pair) × IsObject value members × IsFirst members fault

-- Each value says an item, and these are the items in their order.
abbrev pub AreItemsIn : List (List ℕ) → List Item → Type 0
AreItemsIn [] items = items ≡ []
AreItemsIn (value ∷ values) items =
    (item : Item) × (others : List Item) × (items ≡ item ∷ others) × IsItemIn value item
    × AreItemsIn values others

-- The value at this place, counted from 0, is the first with a fault.
abbrev pub IsFirstFaultyItem : List (List ℕ) → ℕ → ItemFault → Type 0
IsFirstFaultyItem [] place fault = ⊥
IsFirstFaultyItem (value ∷ values) zero fault = IsItemFault value fault
IsFirstFaultyItem (value ∷ values) (suc place) fault =
    ((item : Item) × IsItemIn value item) × IsFirstFaultyItem values place fault

-- The members are those of a library: an object of type `excalidrawlib`.
abbrev pub IsLibrary : List Pair → Type 0
IsLibrary members = IsText (value_at (codes "type") members) (codes "excalidrawlib")

-- This compact text is that of a library of these items.
pub record IsLibraryOf (text : List ℕ) (items : List Item) : Type 0 where
  pub members : List Pair
  pub object : IsObject text members
  pub kind : IsLibrary members
  pub values : List (List ℕ)
  pub array : IsArray (value_at (codes "libraryItems") members) values
  pub read : AreItemsIn values items

-- The first fault of a compact text that is no library's, in the order in which the faults are
-- listed.
abbrev pub IsLibFault : List ℕ → LibFault → Type 0
IsLibFault text library.NotObject = (members : List Pair) → IsObject text members → ⊥
IsLibFault text library.NotLibrary =
    (members : List Pair) × IsObject text members × (IsLibrary members → ⊥)
IsLibFault text library.Items =
    (members : List Pair) × IsObject text members × IsLibrary members
    × Lacks (IsArray (value_at (codes "libraryItems") members))
IsLibFault text (library.Item place fault) =
    (members : List Pair) × (values : List (List ℕ)) × IsObject text members × IsLibrary members
    × IsArray (value_at (codes "libraryItems") members) values
    × IsFirstFaultyItem values place fault
