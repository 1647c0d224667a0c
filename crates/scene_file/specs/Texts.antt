-- The text of a scene in a layout.
use Rattle.std.specs.Prelude.{ℕ, List}
use Rattle.elem.specs.ElementValue.{ElementValue}
use Rattle.scene_file.specs.Heads.{Heading}
use Rattle.scene_file.specs.Layouts.{IsWrittenIn}
use Rattle.scene_file.specs.Scenes.{scene_text}
use Rattle.scene_file.specs.declared.layout.Layout.{Layout}

-- This is how the text of the scene of these elements under this head is written. This project's
-- own.
abbrev pub IsSceneText : Layout → Heading → List ElementValue → List ℕ → Type 0
IsSceneText layout head elements text = IsWrittenIn layout (scene_text head elements) text
