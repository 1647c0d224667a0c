-- What is told of a journal that is recovered. This project's own.
use Rattle.std.specs.Prelude.{◌≡◌, ◌⊎◌, ℕ, List, ◌++◌, Ok, Err}
use Rattle.elem.specs.ElementValue.{ElementValue}
use Rattle.room_disk.specs.Recovering.{HasNoRecord, Recovered, IsRecoveredAs}
use Rattle.room_disk.specs.declared.fault.KeepFault.TheVariants.{Line}
use Rattle.room_disk.specs.declared.fault.LineFault.{LineFault}
use Rattle.scene_file.specs.Heads.{Heading}
use Rattle.scene_file.specs.Scenes.{state_text}
use Rattle.scene_file.specs.declared.layout.Layout.TheVariants.{Compact}
use Rattle.commands.specs.Boards.{IsSceneOfStored}
use Rattle.commands.specs.Faults.{newline}
use Rattle.commands.specs.declared.status.InputRefusal.{InputRefusal}
use Rattle.commands.specs.declared.status.InputRefusal.TheVariants as refusal
use Rattle.commands.specs.declared.words.Form.{Form}
use Rattle.commands.specs.declared.words.Form.TheVariants as form

-- The text of what is stored under this head, in this form, and a newline: all of it; or the scene
-- that is shown, whose layers are those of the stored elements.
abbrev pub IsToldAs : Form → Heading → List ElementValue → List ℕ → Type 0
IsToldAs form.State head stored text = text ≡ state_text head stored ++ newline
IsToldAs form.Scene head stored text = IsSceneOfStored Compact head stored text

-- The input is a journal, and this is the text of what is recovered of it.
pub record IsRecovered (form : Form) (bytes text : List ℕ) : Type 0 where
  pub found : Recovered
  pub read : IsRecoveredAs bytes (Ok found)
  pub told : IsToldAs form found.head found.elements text

-- The first fault of an input that is to be a journal: its first faulty line has it.
abbrev pub IsJournalRefusal : List ℕ → InputRefusal → Type 0
IsJournalRefusal bytes found =
    (number : ℕ) × (fault : LineFault) × (found ≡ refusal.Line number fault)
    × IsRecoveredAs bytes (Err (Line number fault))

-- The first fault of an input that a room is to be resumed from: it has bytes and no record; or its
-- first faulty line has it.
abbrev pub IsResumeRefusal : List ℕ → InputRefusal → Type 0
IsResumeRefusal bytes found =
    ((found ≡ refusal.NoRecord) × HasNoRecord bytes) ⊎ IsJournalRefusal bytes found
