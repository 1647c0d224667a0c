-- What an input holds. This project's own.
use Rattle.std.specs.Prelude.{◌≡◌, ◌≢◌, ◌⊎◌, ℕ, ◌+◌, ◌<◌, ◌≤◌, List, [], ◌∷◌, true, false, length, drop}
use Rattle.std.specs.List.{prefix_len}
use Rattle.json_text.specs.Characters.{is_blank, is_space}
use Rattle.scene_file.specs.Reading.{IsSceneAt, IsSceneFaultAt}
use Rattle.scene_file.specs.declared.scene.Scene.{Scene}
use Rattle.scene_file.specs.declared.fault.SceneFault.{SceneFault}

-- These scenes stand at the front, one after the other, each behind white space; the rest follows
-- them.
abbrev pub ScenesLead : List ℕ → List Scene → List ℕ → Type 0
ScenesLead bytes [] rest = bytes ≡ rest
ScenesLead bytes (scene ∷ scenes) rest =
    (next : List ℕ) × IsSceneAt bytes scene next × ScenesLead next scenes rest

-- The input is these scenes, of which there is one at least, and then white space.
pub record HasScenes (bytes : List ℕ) (scenes : List Scene) : Type 0 where
  pub some : scenes ≢ []
  pub rest : List ℕ
  pub lead : ScenesLead bytes scenes rest
  pub space : is_blank rest ≡ true

-- The text with this number is the first with a fault: scenes lead up to it. Texts are counted from
-- 1; behind the last scene white space alone is no text, and at least one text is needed.
pub record HasFaultyText (bytes : List ℕ) (number : ℕ) (fault : SceneFault) : Type 0 where
  pub scenes : List Scene
  pub start : ℕ
  pub within : start ≤ length bytes
  pub lead : ScenesLead bytes scenes (drop start bytes)
  pub counted : number ≡ length scenes + 1
  pub begun : (scenes ≡ []) ⊎ (is_blank (drop start bytes) ≡ false)
  pub faulty : IsSceneFaultAt bytes start fault

-- A scene stands at the front, and behind it and white space a further byte, at this offset.
pub record HasExtraText (bytes : List ℕ) (at : ℕ) : Type 0 where
  pub scene : Scene
  pub after : ℕ
  pub lead : IsSceneAt bytes scene (drop after bytes)
  pub behind : at ≡ after + prefix_len is_space (drop after bytes)
  pub more : at < length bytes
