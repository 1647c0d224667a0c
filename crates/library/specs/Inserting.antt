-- An item that is inserted into a board. This project's own.
use Rattle.std.specs.Prelude.{ℕ, suc, List, [], ◌∷◌, Option, map, codes}
use Rattle.json_text.specs.Characters.{quote}
use Rattle.json_text.specs.Compact.{array_text, object_text}
use Rattle.elem.specs.ElementValue.{ElementValue}
use Rattle.elem.specs.Texts.{element_text}
use Rattle.clips.specs.Clips.{live_in}
use Rattle.copies.specs.Copies.{copies_of}
use Rattle.board_paste.specs.Pasting.{first_stored, pasted}
use Rattle.clips.specs.Placed.{elements_in, places_in}
use Rattle.clips.specs.declared.clip.Clip.{Clip}
use Rattle.clips.specs.declared.placed.Placed.{Placed}
use Rattle.library.specs.declared.item.Item.{Item}

-- elements with their places, of which the first is given
abbrev pub placed_from : ℕ → List ElementValue → List Placed
placed_from place [] = []
placed_from place (e ∷ elements) =
    record { place = place; element = e } ∷ placed_from (suc place) elements

-- those of elements that aren't deleted, each with its place among all of them
abbrev pub live_of : List ElementValue → List Placed
live_of elements = live_in (placed_from 0 elements)

-- the clip of elements: those that aren't deleted, and no files
abbrev pub clip_with : List ElementValue → Clip
clip_with elements = record {
  elements = elements_in (live_of elements);
  places = places_in (live_of elements);
  files = [];
}

-- the clip of an item: that of its elements
abbrev pub clip_of : Item → Clip
clip_of item = clip_with item.elements

-- the copies of an item's elements that aren't deleted, with the keys that they get where they are
-- inserted
abbrev pub inserted : List ElementValue → Item → List ℕ → List ElementValue
inserted stored item prefix = pasted stored (clip_of item).elements prefix

-- the place, among all elements of an item, of the first whose copy's id is stored
abbrev pub first_stored_of : List ElementValue → Item → List ℕ → Option ℕ
first_stored_of stored item prefix =
    first_stored stored (copies_of (clip_of item).elements prefix) (clip_of item).places

-- the text of a clip with these elements
unfoldable pub clip_text : List ElementValue → List ℕ
clip_text elements =
    object_text ((codes "type", quote (codes "excalidraw/clipboard"))
    ∷ (codes "elements", array_text (map element_text elements)) ∷ [])
