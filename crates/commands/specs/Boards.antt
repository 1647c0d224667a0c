-- The boards of scenes, and what is shown of them. This project's own; what is stored is
-- Excalidraw's reconcile.
use Rattle.std.specs.Prelude.{◌≡◌, ℕ, List, ◌++◌, flat_map, map}
use Rattle.elem.specs.ElementValue.{ElementValue}
use Rattle.elem_store.specs.Updates.{AreStored}
use Rattle.index_repair.specs.Keyed.{HaveRisingKeys}
use Rattle.view.specs.Settled.{AreSettled}
use Rattle.view.specs.Shown.{live_elements, shown}
use Rattle.scene_file.specs.Heads.{Heading, IsJoinedHead}
use Rattle.scene_file.specs.Texts.{IsSceneText}
use Rattle.scene_file.specs.declared.layout.Layout.{Layout}
use Rattle.scene_file.specs.declared.scene.Scene.{Scene}
use Rattle.commands.specs.Faults.{newline}

-- the elements of scenes, one scene after the other: each is an update; and the heads of scenes
abbrev pub updates_of : List Scene → List ElementValue
updates_of scenes = flat_map (λ (scene : Scene). scene.elements) scenes

abbrev pub heads_of : List Scene → List Heading
heads_of scenes = map (λ (scene : Scene). scene.head) scenes

-- The board of these scenes has their joined head, and stores of all their updates these elements.
pub record IsBoardOf (scenes : List Scene) (head : Heading)
    (stored : List ElementValue) : Type 0 where
  pub joined : IsJoinedHead (heads_of scenes) head
  pub stores : AreStored (updates_of scenes) stored

-- what a board shows of its stored elements: the live ones in scene order, settled
abbrev pub shown_of : List ElementValue → List ElementValue
shown_of stored = shown (live_elements stored)

-- The text is that of the scene that is shown of these stored elements, and a newline. Its keys
-- rise strictly, and its elements agree on their links, frames and groups.
pub record IsSceneOfStored (layout : Layout) (head : Heading) (stored : List ElementValue)
    (text : List ℕ) : Type 0 where
  pub written : List ℕ
  pub scene : IsSceneText layout head (shown_of stored) written
  pub ended : text ≡ written ++ newline
  pub rise : HaveRisingKeys (shown_of stored)
  pub settled : AreSettled (shown_of stored)
