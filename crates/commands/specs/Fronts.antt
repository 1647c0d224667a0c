-- What an input begins with that is to be a scene and a second text. This project's own.
use Rattle.std.specs.Prelude.{◌≡◌, ◌⊎◌, ℕ, ◌+◌, ◌<◌, ◌≤◌, List, true, Option, Some, None, length, drop}
use Rattle.std.specs.List.{prefix_len}
use Rattle.json_text.specs.Characters.{is_blank, is_space}
use Rattle.json_text.specs.Value.{Stands}
use Rattle.json_reader.specs.Faults.{IsFirstFault}
use Rattle.json_reader.specs.declared.fault.JsonFault.{JsonFault}
use Rattle.scene_file.specs.Reading.{IsSceneAt, IsSceneFaultAt}
use Rattle.scene_file.specs.declared.scene.Scene.{Scene}
use Rattle.scene_file.specs.declared.fault.SceneFault.{SceneFault}
use Rattle.scene_file.specs.declared.fault.SceneFault.TheVariants.{Json}
use Rattle.commands.specs.declared.status.InputRefusal.{InputRefusal}
use Rattle.commands.specs.declared.status.InputRefusal.TheVariants as refusal

-- What stands behind an offset: white space alone, or behind white space a further byte, at this
-- place.
abbrev pub IsBehind : List ℕ → ℕ → Option ℕ → Type 0
IsBehind bytes after None = is_blank (drop after bytes) ≡ true
IsBehind bytes after (Some at) =
    (at ≡ after + prefix_len is_space (drop after bytes)) × (at < length bytes)

-- The bytes begin with a scene, and behind it a value with this compact text; and what stands
-- behind that.
pub record HasFront (bytes : List ℕ) (scene : Scene) (text : List ℕ)
    (more : Option ℕ) : Type 0 where
  pub next : List ℕ
  pub first : IsSceneAt bytes scene next
  pub after : ℕ
  pub within : after ≤ length bytes
  pub second : Stands next text (drop after bytes)
  pub behind : IsBehind bytes after more

-- The bytes begin with a scene, and what is behind it has this fault, where a value is to stand.
pub record HasNoTextBehind (bytes : List ℕ) (fault : JsonFault) : Type 0 where
  pub scene : Scene
  pub start : ℕ
  pub within : start ≤ length bytes
  pub first : IsSceneAt bytes scene (drop start bytes)
  pub faulty : IsFirstFault bytes start fault

-- The first fault of an input that is to begin with a scene and a value behind it.
abbrev pub IsFrontRefusal : List ℕ → InputRefusal → Type 0
IsFrontRefusal bytes found =
    ((fault : SceneFault) × (found ≡ refusal.Text 1 fault) × IsSceneFaultAt bytes 0 fault)
    ⊎ ((fault : JsonFault) × (found ≡ refusal.Text 2 (Json fault)) × HasNoTextBehind bytes fault)

-- The first fault of an input that is to be a scene and a text that is read so, which else has a
-- fault: the input doesn't begin with a scene and a value; or the value has a fault; or behind it
-- and white space a further byte stands.
abbrev pub IsSecondRefusal : (List ℕ → Type 0) → (List ℕ → InputRefusal → Type 0) → List ℕ
    → InputRefusal
    → Type 0
IsSecondRefusal IsRead IsFaulty bytes found =
    IsFrontRefusal bytes found
    ⊎ (((scene : Scene) × (text : List ℕ) × (more : Option ℕ) × HasFront bytes scene text more
    × IsFaulty text found)
    ⊎ ((at : ℕ) × (found ≡ refusal.Extra at) × ((scene : Scene) × (text : List ℕ)
    × HasFront bytes scene text (Some at) × IsRead text)))
