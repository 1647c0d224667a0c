-- The text of an item and that of a library. After Excalidraw's library files; that every item has
-- these members alone, and in this order, is this project's own.
use Rattle.std.specs.Prelude.{ℕ, List, [], ◌∷◌, ◌++◌, Bool, true, false, Option, Some, None, map, codes, decimal}
use Rattle.json_text.specs.Characters.{quote}
use Rattle.json_text.specs.Compact.{Member as Pair, array_text, object_text}
use Rattle.elem.specs.Texts.{element_text}
use Rattle.library.specs.declared.item.Item.{Item}

-- the word for whether an item is published
abbrev pub status_word : Bool → List ℕ
status_word true = codes "published"
status_word false = codes "unpublished"

-- the member of a name, where there is a name
abbrev pub name_members : Option (List ℕ) → List Pair
name_members None = []
name_members (Some name) = (codes "name", quote name) ∷ []

-- the members of an item's text
abbrev pub item_members : Item → List Pair
item_members item =
    (codes "id", quote item.id) ∷ (codes "status", quote (status_word item.published))
    ∷ (codes "created", decimal item.created)
    ∷ (name_members item.name
    ++ (codes "elements", array_text (map element_text item.elements)) ∷ [])

-- the text of an item
unfoldable pub item_text : Item → List ℕ
item_text item = object_text (item_members item)

-- the members of the text of a library of these items
abbrev pub library_members : List Item → List Pair
library_members items =
    (codes "type", quote (codes "excalidrawlib")) ∷ (codes "version", decimal 2)
    ∷ (codes "libraryItems", array_text (map item_text items)) ∷ []

-- the text of a library of these items, in their order
unfoldable pub library_text : List Item → List ℕ
library_text items = object_text (library_members items)
