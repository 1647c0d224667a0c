-- What a value is read as: no element, an element, or a fault. Restoring is Excalidraw's; that a
-- type of `selection` is no element, the forms and the limit are this project's own.
use Rattle.std.specs.Prelude.{◌≡◌, ◌≢◌, ℕ, List, Some, codes}
use Rattle.json_text.specs.Characters.{quote}
use Rattle.json_text.specs.Compact.{Member as Pair}
use Rattle.json_text.specs.Value.{IsCompact}
use Rattle.scene_json.specs.Named.{value_at}
use Rattle.restore_table.specs.Restored.{AreRestored}
use Rattle.elem.specs.ElementValue.{ElementValue}
use Rattle.elem.specs.Forms.{find_in, IsObject}
use Rattle.elem.specs.Said.{Says}
use Rattle.elem.specs.Texts.{element_text}
use Rattle.elem_read.specs.Faults.{IsFirst}
use Rattle.elem_read.specs.declared.fault.ElemFault.{ElemFault}
use Rattle.elem_read.specs.declared.fault.ElemFault.TheVariants.{NotObject, Depth}

abbrev pub selection_text : List ℕ
selection_text = quote (codes "selection")

-- An object whose `type` is the text `selection`.
pub record IsSelection (value : List ℕ) : Type 0 where
  pub members : List Pair
  pub object : IsObject value members
  pub kind : value_at (codes "type") members ≡ Some selection_text

-- Any other object.
pub record IsNoSelection (value : List ℕ) (members : List Pair) : Type 0 where
  pub object : IsObject value members
  pub kind : value_at (codes "type") members ≢ Some selection_text

-- The value says this element: it nests at most 120, and its members, the defaults filled in, say
-- the element.
pub record IsElementIn (value : List ℕ) (e : ElementValue) : Type 0 where
  pub members : List Pair
  pub restored : List Pair
  pub no_selection : IsNoSelection value members
  pub shallow : IsCompact 120 value
  pub restores : AreRestored members restored
  pub says : Says (find_in restored) e

-- It nests deeper.
pub record IsTooDeepElement (value : List ℕ) : Type 0 where
  pub members : List Pair
  pub no_selection : IsNoSelection value members
  pub deep : IsCompact 120 value → ⊥

-- The first fault of its members, the defaults filled in, is this one.
pub record HasFault (value : List ℕ) (fault : ElemFault) : Type 0 where
  pub members : List Pair
  pub restored : List Pair
  pub no_selection : IsNoSelection value members
  pub shallow : IsCompact 120 value
  pub restores : AreRestored members restored
  pub first : IsFirst (find_in restored) fault

-- The first fault of the value: that it is no object, and for an object but a selection that it
-- nests too deep, and then those of its members.
abbrev pub IsFaultIn : List ℕ → ElemFault → Type 0
IsFaultIn value NotObject = (members : List Pair) → IsObject value members → ⊥
IsFaultIn value Depth = IsTooDeepElement value
IsFaultIn value fault = HasFault value fault

-- Reading the element's text gives the element.
abbrev pub IsWholeElement : ElementValue → Type 0
IsWholeElement e = IsElementIn (element_text e) e
