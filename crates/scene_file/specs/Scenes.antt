-- The text of a scene, and that of all that is stored. After Excalidraw's JSON schema; that a scene
-- has the files alone that its elements name is this project's own.
use Rattle.std.specs.Prelude.{ℕ, List, [], ◌∷◌, map, codes, decimal}
use Rattle.json_text.specs.Characters.{quote}
use Rattle.json_text.specs.Compact.{Member as Pair, array_text, object_text}
use Rattle.json_text.specs.Members.{pairs}
use Rattle.elem.specs.ElementValue.{ElementValue}
use Rattle.elem.specs.Texts.{element_text, text_or_null}
use Rattle.file_table.specs.References.{referred_files}
use Rattle.scene_file.specs.Heads.{Heading}

-- the members of the text of these elements, with these files, under this head
abbrev pub scene_members : Heading → List ElementValue → List Pair → List Pair
scene_members head elements files =
    (codes "type", quote (codes "excalidraw")) ∷ (codes "version", decimal 2)
    ∷ (codes "source", text_or_null head.source)
    ∷ (codes "elements", array_text (map element_text elements))
    ∷ (codes "appState", object_text (pairs head.app_state)) ∷ (codes "files", object_text files)
    ∷ []

-- the text of the scene of these elements: with the files that they name
unfoldable pub scene_text : Heading → List ElementValue → List ℕ
scene_text head elements =
    object_text (scene_members head elements (referred_files head.files elements))

-- the text of all that is stored: with all files
unfoldable pub state_text : Heading → List ElementValue → List ℕ
state_text head stored = object_text (scene_members head stored head.files)
