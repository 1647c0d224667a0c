-- What the readers of an input's scenes have read. This project's own.
use Rattle.std.specs.Prelude.{◌≡◌, ℕ, ◌+◌, ◌==◌, List, [], ◌∷◌, false, Option, Some, None, is_some, is_none, length}
use Rattle.json_text.specs.Compact.{Member as Pair}
use Rattle.elem.specs.ElementValue.{ElementValue}
use Rattle.elem_store.specs.Updates.{AreStored}
use Rattle.file_table.specs.Table.{AreLeastEntries}
use Rattle.input_texts.specs.Texts.{Reading}
use Rattle.input_texts.specs.declared.reading.Stopped.{Stopped}
use Rattle.input_texts.specs.declared.reading.Stopped.TheVariants.{Faulty, Refused, Extra}
use Rattle.scene_file.specs.Heads.{Heading, least_source, settings_of, files_of}
use Rattle.scene_file.specs.Reading.{IsSceneOf, IsSceneFault}
use Rattle.commands.specs.Boards.{heads_of, updates_of}
use Rattle.commands.specs.declared.status.InputRefusal.{InputRefusal}
use Rattle.commands.specs.declared.status.InputRefusal.TheVariants as refusal
use Rattle.scene_file.specs.declared.scene.Scene.{Scene}
use Rattle.scene_file.specs.declared.fault.SceneFault.{SceneFault}
use Rattle.scene_file.specs.declared.fault.SceneFault.TheVariants.{Json}

-- The texts are those of the scenes, one by one.
abbrev pub SayScenes : List (List ℕ) → List Scene → Type 0
SayScenes [] [] = Unit {0}
SayScenes [] (scene ∷ scenes) = ⊥
SayScenes (text ∷ texts) [] = ⊥
SayScenes (text ∷ texts) (scene ∷ scenes) = IsSceneOf text scene × SayScenes texts scenes

-- What heads are joined to so far: a source, and settings and files in the order of their names and
-- ids.
pub record HeadsSoFar : Type 0 where
  pub source : Option (List ℕ)
  pub settings : List Pair
  pub files : List Pair

-- These heads are joined to this: the least source, and of each name and each id the least setting
-- and file's entry.
pub record AreJoined (heads : List Heading) (so_far : HeadsSoFar) : Type 0 where
  pub source : so_far.source ≡ least_source heads
  pub settings : AreLeastEntries (settings_of heads) so_far.settings
  pub files : AreLeastEntries (files_of heads) so_far.files

-- The board of the scenes so far, and the number of the next text, counted from 1.
pub record BoardSoFar : Type 0 where
  pub heads : HeadsSoFar
  pub stored : List ElementValue
  pub next : ℕ

-- The texts are those of scenes, whose heads are joined and whose updates are stored so.
pub record SayBoard (texts : List (List ℕ)) (so_far : BoardSoFar) : Type 0 where
  pub scenes : List Scene
  pub say : SayScenes texts scenes
  pub joined : AreJoined (heads_of scenes) so_far.heads
  pub stores : AreStored (updates_of scenes) so_far.stored
  pub counted : so_far.next ≡ length scenes + 1

-- what is seen of a reader of a board: it needs one scene at least
abbrev pub board_seen : BoardSoFar → Reading SceneFault
board_seen so_far = record {
  has_read = λ texts. SayBoard texts so_far;
  refuses = λ texts text fault. SayBoard texts so_far × IsSceneFault text fault;
  is_full = false;
  needs_text = so_far.next == 1;
}

-- the scene, if there is one
abbrev pub listed : Option Scene → List Scene
listed None = []
listed (Some scene) = scene ∷ []

-- what is seen of a reader of one scene: it needs one, and takes no other
abbrev pub one_seen : Option Scene → Reading SceneFault
one_seen scene = record {
  has_read = λ texts. SayScenes texts (listed scene);
  refuses = λ texts text fault. (texts ≡ []) × IsSceneFault text fault;
  is_full = is_some scene;
  needs_text = is_none scene;
}

-- what an input is refused for whose text with this number isn't read
abbrev pub refusal_of : ℕ → Stopped SceneFault → InputRefusal
refusal_of number (Faulty fault) = refusal.Text number (Json fault)
refusal_of number (Refused fault) = refusal.Text number fault
refusal_of number (Extra place) = refusal.Extra place
