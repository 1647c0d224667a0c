-- What an input is answered with, command by command. This project's own; what is stored is
-- Excalidraw's reconcile, and the texts are after its JSON schema.
use Rattle.std.specs.Prelude.{◌≡◌, ◌⊎◌, ℕ, List, [], ◌∷◌, ◌++◌, true, Result, Ok, Err}
use Rattle.json_text.specs.Characters.{is_blank}
use Rattle.checks.specs.Checks.{IsChecked}
use Rattle.elem.specs.ElementValue.{ElementValue}
use Rattle.elem_store.specs.Updates.{HaveSameUpdates}
use Rattle.file_table.specs.References.{referred_files}
use Rattle.view.specs.Settled.{AreSettled}
use Rattle.index_repair.specs.Keyed.{HaveRisingKeys}
use Rattle.scene_file.specs.Heads.{Heading, HaveSameHeads}
use Rattle.scene_file.specs.Reading.{IsSceneFaultAt}
use Rattle.scene_file.specs.Scenes.{state_text}
use Rattle.scene_file.specs.Texts.{IsSceneText}
use Rattle.scene_file.specs.declared.layout.Layout.{Layout}
use Rattle.scene_file.specs.declared.scene.Scene.{Scene}
use Rattle.scene_file.specs.declared.fault.SceneFault.{SceneFault}
use Rattle.session.specs.Printed.{IsReportText}
use Rattle.session_text.specs.Sessions.{IsSessionOf, IsSessionFault}
use Rattle.session_text.specs.declared.fault.SessionFault.{SessionFault}
use Rattle.session_text.specs.declared.fault.SessionFault.TheVariants.{In, TooMany}
use Rattle.session_text.specs.declared.session.Session.{Session}
use Rattle.commands.specs.Boards.{updates_of, heads_of, IsBoardOf, shown_of}
use Rattle.commands.specs.Faults.{newline}
use Rattle.commands.specs.Input.{HasScenes, HasFaultyText, HasExtraText}
use Rattle.commands.specs.Journals.{IsRecovered, IsJournalRefusal}
use Rattle.commands.specs.Pastes.{IsPasted, IsPasteRefusal}
use Rattle.commands.specs.Pictures.{AreLines}
use Rattle.commands.specs.Shelves.{IsShelved, IsShelfRefusal, IsInserted, IsInsertRefusal}
use Rattle.commands.specs.declared.status.InputRefusal.{InputRefusal}
use Rattle.commands.specs.declared.status.InputRefusal.TheVariants as refusal
use Rattle.commands.specs.declared.words.ProgramCommand.{ProgramCommand}
use Rattle.commands.specs.declared.words.ProgramCommand.TheVariants.{Restore, Merge, State, Pictures, Replay, Recover, Paste, Library, Insert, Check}

-- The text of the scene that the board of these scenes shows, and a newline. Its keys rise
-- strictly, and its elements agree on their links, frames and groups.
pub record IsShownAs (scenes : List Scene) (layout : Layout) (text : List ℕ) : Type 0 where
  pub head : Heading
  pub stored : List ElementValue
  pub board : IsBoardOf scenes head stored
  pub written : List ℕ
  pub scene : IsSceneText layout head (shown_of stored) written
  pub ended : text ≡ written ++ newline
  pub rise : HaveRisingKeys (shown_of stored)
  pub settled : AreSettled (shown_of stored)

-- The text of all that the board of these scenes stores, and a newline.
pub record IsStoredAs (scenes : List Scene) (text : List ℕ) : Type 0 where
  pub head : Heading
  pub stored : List ElementValue
  pub board : IsBoardOf scenes head stored
  pub is_state : text ≡ state_text head stored ++ newline

-- A line on each file that the board of these scenes shows.
pub record HasPictures (scenes : List Scene) (text : List ℕ) : Type 0 where
  pub head : Heading
  pub stored : List ElementValue
  pub board : IsBoardOf scenes head stored
  pub lines : AreLines (referred_files head.files (shown_of stored)) text

-- The first fault of an input that is to be one scene: its first text has it, or a further byte
-- follows the scene.
abbrev pub IsOneRefusal : List ℕ → InputRefusal → Type 0
IsOneRefusal bytes found =
    ((fault : SceneFault) × (found ≡ refusal.Text 1 fault) × IsSceneFaultAt bytes 0 fault)
    ⊎ ((at : ℕ) × (found ≡ refusal.Extra at) × HasExtraText bytes at)

-- The first fault of an input that is to be one scene at least: the first text with a fault has it.
abbrev pub IsRefusal : List ℕ → InputRefusal → Type 0
IsRefusal bytes found =
    (number : ℕ) × (fault : SceneFault) × (found ≡ refusal.Text number fault)
    × HasFaultyText bytes number fault

-- The input has no text, and is refused as scenes are.
abbrev pub IsEmptyRefusal : List ℕ → InputRefusal → Type 0
IsEmptyRefusal bytes found = (is_blank bytes ≡ true) × IsRefusal bytes found

-- what a session's fault is told as
abbrev pub session_refusal : SessionFault → InputRefusal
session_refusal (In number found) = refusal.Event number found
session_refusal TooMany = refusal.TooMany

-- The first fault of an input that is to be a session.
abbrev pub IsSessionRefusal : List ℕ → InputRefusal → Type 0
IsSessionRefusal bytes found =
    (fault : SessionFault) × (found ≡ session_refusal fault) × IsSessionFault bytes fault

-- The input is a session, and this is the text of its report, and a newline.
pub record IsReplayed (bytes text : List ℕ) : Type 0 where
  pub session : Session
  pub read : IsSessionOf bytes session
  pub written : List ℕ
  pub report : IsReportText session written
  pub ended : text ≡ written ++ newline

-- The input is scenes, one at least, of which this text is made.
abbrev pub IsMadeOf : (List Scene → List ℕ → Type 0) → List ℕ → List ℕ → Type 0
IsMadeOf IsOf bytes text = (scenes : List Scene) × HasScenes bytes scenes × IsOf scenes text

-- What a command answers an input with: this text, or this first fault.
abbrev pub IsAnswer : ProgramCommand → List ℕ → Result (List ℕ) InputRefusal → Type 0
IsAnswer (Restore layout) bytes (Ok text) =
    (scene : Scene) × HasScenes bytes (scene ∷ []) × IsShownAs (scene ∷ []) layout text
IsAnswer (Restore layout) bytes (Err found) = IsOneRefusal bytes found
IsAnswer (Merge layout) bytes (Ok text) = IsMadeOf (λ scenes. IsShownAs scenes layout) bytes text
IsAnswer (Merge layout) bytes (Err found) = IsRefusal bytes found
IsAnswer State bytes (Ok text) = IsMadeOf IsStoredAs bytes text
IsAnswer State bytes (Err found) = IsRefusal bytes found
IsAnswer Pictures bytes (Ok text) = IsMadeOf HasPictures bytes text
IsAnswer Pictures bytes (Err found) = IsRefusal bytes found
IsAnswer Replay bytes (Ok text) = IsReplayed bytes text
IsAnswer Replay bytes (Err found) = IsSessionRefusal bytes found
IsAnswer (Recover form) bytes (Ok text) = IsRecovered form bytes text
IsAnswer (Recover form) bytes (Err found) = IsJournalRefusal bytes found
IsAnswer (Paste prefix) bytes (Ok text) = IsPasted prefix bytes text
IsAnswer (Paste prefix) bytes (Err found) = IsPasteRefusal prefix bytes found
IsAnswer Library bytes (Ok text) = IsShelved bytes text
IsAnswer Library bytes (Err found) = IsShelfRefusal bytes found
IsAnswer (Insert insertion) bytes (Ok text) = IsInserted insertion bytes text
IsAnswer (Insert insertion) bytes (Err found) = IsInsertRefusal insertion bytes found
IsAnswer Check bytes (Ok text) = IsChecked bytes text
IsAnswer Check bytes (Err found) = IsEmptyRefusal bytes found

-- Two inputs are scenes with the same updates and the same heads, in whatever order, grouping and
-- repetition.
pub record HaveSameUpdatesAndHeads (bytes others : List ℕ) : Type 0 where
  pub scenes : List Scene
  pub other_scenes : List Scene
  pub bytes_hold : HasScenes bytes scenes
  pub others_hold : HasScenes others other_scenes
  pub same : HaveSameUpdates (updates_of scenes) (updates_of other_scenes)
  pub same_heads : HaveSameHeads (heads_of scenes) (heads_of other_scenes)

-- Inputs with the same updates and the same heads are merged to one text.
abbrev pub Converges : Type 0
Converges =
    (layout : Layout) (bytes others text other_text : List ℕ) → HaveSameUpdatesAndHeads bytes others
    → IsAnswer (Merge layout) bytes (Ok text) → IsAnswer (Merge layout) others (Ok other_text)
    → other_text ≡ text
