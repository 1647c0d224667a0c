-- A clip that is pasted into a scene. This project's own.
use Rattle.std.specs.Prelude.{◌≡◌, ◌⊎◌, ℕ, List, [], ◌∷◌, ◌++◌, Some, None}
use Rattle.json_text.specs.Members.{pairs}
use Rattle.elem.specs.ElementValue.{ElementValue}
use Rattle.elem_store.specs.Updates.{AreStored}
use Rattle.clips.specs.Clips.{IsClipOf, IsClipFault}
use Rattle.copies.specs.Copies.{copies_of}
use Rattle.board_paste.specs.Pasting.{first_stored, pasted, IsClipHead}
use Rattle.clips.specs.declared.clip.Clip.{Clip}
use Rattle.clips.specs.declared.fault.ClipFault.{ClipFault}
use Rattle.scene_file.specs.Heads.{Heading, IsJoinedHead}
use Rattle.scene_file.specs.declared.layout.Layout.TheVariants.{Compact}
use Rattle.scene_file.specs.declared.scene.Scene.{Scene}
use Rattle.commands.specs.Boards.{heads_of, updates_of, IsBoardOf, IsSceneOfStored}
use Rattle.commands.specs.Fronts.{HasFront, IsSecondRefusal}
use Rattle.commands.specs.declared.status.InputRefusal.{InputRefusal}
use Rattle.commands.specs.declared.status.InputRefusal.TheVariants as refusal

-- The text is that of a clip; it is none, and is refused so.
abbrev pub IsClip : List ℕ → Type 0
IsClip text = (clip : Clip) × IsClipOf text clip

abbrev pub IsNoClip : List ℕ → InputRefusal → Type 0
IsNoClip text found = (fault : ClipFault) × (found ≡ refusal.Clip fault) × IsClipFault text fault

-- The input is a scene, a clip and white space.
abbrev pub HasSceneAndClip : List ℕ → Scene → Clip → Type 0
HasSceneAndClip bytes scene clip =
    (text : List ℕ) × HasFront bytes scene text None × IsClipOf text clip

-- The text of the scene that is shown of the scene's board and the copies of a clip's elements, and
-- a newline. No copy's id is stored by the board. The copies come behind the updates of the scene,
-- with keys above the last one of what is shown of its board; and the clip's files are joined as
-- those of a further head that has nothing else.
pub record IsPastedAs (prefix : List ℕ) (scene : Scene) (clip : Clip)
    (text : List ℕ) : Type 0 where
  pub old : Heading
  pub stored : List ElementValue
  pub board : IsBoardOf (scene ∷ []) old stored
  pub new : first_stored stored (copies_of clip.elements prefix) clip.places ≡ None
  pub own : Heading
  pub own_files : IsClipHead (pairs clip.files) own
  pub head : Heading
  pub joined : IsJoinedHead (heads_of (scene ∷ []) ++ own ∷ []) head
  pub all : List ElementValue
  pub stores : AreStored (updates_of (scene ∷ []) ++ pasted stored clip.elements prefix) all
  pub shown : IsSceneOfStored Compact head all text

-- The board of the scene stores the id that the copy of the element at this place would have; that
-- of none before it.
pub record IsExisting (prefix : List ℕ) (scene : Scene) (clip : Clip)
    (place : ℕ) : Type 0 where
  pub head : Heading
  pub stored : List ElementValue
  pub board : IsBoardOf (scene ∷ []) head stored
  pub exists : first_stored stored (copies_of clip.elements prefix) clip.places ≡ Some place

-- The input is a scene and a clip, and this is the text of the scene with the copies.
pub record IsPasted (prefix bytes text : List ℕ) : Type 0 where
  pub scene : Scene
  pub clip : Clip
  pub holds : HasSceneAndClip bytes scene clip
  pub is : IsPastedAs prefix scene clip text

-- The input is a scene and a clip, and the id is stored that the copy of the element at this place
-- would have.
pub record HasExisting (prefix bytes : List ℕ) (place : ℕ) : Type 0 where
  pub scene : Scene
  pub clip : Clip
  pub holds : HasSceneAndClip bytes scene clip
  pub is : IsExisting prefix scene clip place

-- Why nothing is pasted: the first fault of the input, and where it has none the first copy whose
-- id is stored.
abbrev pub IsPasteRefusal : List ℕ → List ℕ → InputRefusal → Type 0
IsPasteRefusal prefix bytes found =
    IsSecondRefusal IsClip IsNoClip bytes found
    ⊎ ((place : ℕ) × (found ≡ refusal.Exists place) × HasExisting prefix bytes place)
