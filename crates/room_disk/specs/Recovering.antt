-- What the bytes of a journal are read as. This project's own.
use Rattle.std.specs.Prelude.{◌≡◌, ◌≢◌, ◌⊎◌, ℕ, ◌+◌, List, [], ◌∷◌, ◌++◌, length, flat_map, None, Result, Ok, Err}
use Rattle.json_reader.specs.Faults.{IsFirstFault}
use Rattle.json_reader.specs.declared.fault.JsonFault.TheVariants.{Syntax}
use Rattle.elem.specs.ElementValue.{ElementValue}
use Rattle.elem_store.specs.Updates.{AreStored}
use Rattle.room_msg.specs.Messages.{StandsAlone, HasMore, IsReadAs}
use Rattle.room_msg.specs.declared.message.Message.{Message}
use Rattle.room_msg.specs.declared.message.Message.TheVariants.{Init, Update, Presence}
use Rattle.scene_file.specs.Heads.{Heading}
use Rattle.scene_file.specs.Reading.{IsSceneOf, IsSceneFault}
use Rattle.scene_file.specs.declared.fault.SceneFault.{SceneFault}
use Rattle.scene_file.specs.declared.fault.SceneFault.TheVariants.{Json}
use Rattle.scene_file.specs.declared.scene.Scene.{Scene}
use Rattle.input_texts.specs.Lines.{lines_of}
use Rattle.room_disk.specs.declared.fault.KeepFault.{KeepFault}
use Rattle.room_disk.specs.declared.fault.KeepFault.TheVariants.{Line}
use Rattle.room_disk.specs.declared.fault.LineFault.{LineFault}
use Rattle.room_disk.specs.declared.fault.LineFault.TheVariants.{Scene as SceneLine, Message as MessageLine, Other}

-- What a line is read as that is to be one scene: the scene, or its first fault. A byte behind the
-- value that isn't white space comes before all faults of the value itself.
abbrev pub IsSceneReadAs : List ℕ → Result Scene SceneFault → Type 0
IsSceneReadAs line (Ok scene) = (text : List ℕ) × StandsAlone line text × IsSceneOf text scene
IsSceneReadAs line (Err (Json fault)) =
    IsFirstFault line 0 fault ⊎ ((at : ℕ) × (fault ≡ Syntax at) × HasMore line at)
IsSceneReadAs line (Err fault) = (text : List ℕ) × StandsAlone line text × IsSceneFault text fault

-- The lines are updates with these elements, one each.
abbrev pub AreUpdates : List (List ℕ) → List (List ElementValue) → Type 0
AreUpdates [] [] = Unit {0}
AreUpdates [] (elements ∷ messages) = ⊥
AreUpdates (line ∷ lines) [] = ⊥
AreUpdates (line ∷ lines) (elements ∷ messages) =
    IsReadAs line (Ok (Update elements)) × AreUpdates lines messages

-- a head without anything
abbrev pub empty_head : Heading
empty_head = record { source = None; app_state = []; files = [] }

-- The first line is this scene, the others are updates with these elements, and what is stored of
-- the scene's elements and then those of the updates, in order, is this.
pub record AreOpened (first : List ℕ) (others : List (List ℕ)) (head : Heading)
    (elements : List ElementValue) : Type 0 where
  pub scene : Scene
  pub read : IsSceneReadAs first (Ok scene)
  pub is_head : head ≡ scene.head
  pub messages : List (List ElementValue)
  pub updates : AreUpdates others messages
  pub stored : AreStored (scene.elements ++ flat_map (λ es. es) messages) elements

-- The lines are faultless, and this is their head and what they store; nothing where there is no
-- line.
abbrev pub AreKept : List (List ℕ) → Heading → List ElementValue → Type 0
AreKept [] head elements = (head ≡ empty_head) × (elements ≡ [])
AreKept (first ∷ others) head elements = AreOpened first others head elements

-- a message that is no update
abbrev pub IsOther : Message → Type 0
IsOther (Init elements) = Unit {0}
IsOther (Update elements) = ⊥
IsOther (Presence value) = Unit {0}

-- the fault of a line that is to be a scene, and of one that is to be an update
abbrev pub IsSceneLineFault : List ℕ → LineFault → Type 0
IsSceneLineFault line (SceneLine fault) = IsSceneReadAs line (Err fault)
IsSceneLineFault line (MessageLine fault) = ⊥
IsSceneLineFault line Other = ⊥

abbrev pub IsUpdateLineFault : List ℕ → LineFault → Type 0
IsUpdateLineFault line (SceneLine fault) = ⊥
IsUpdateLineFault line (MessageLine fault) = IsReadAs line (Err fault)
IsUpdateLineFault line Other = (message : Message) × IsReadAs line (Ok message) × IsOther message

-- The line behind these has this fault: the first line is to be a scene, each other one an update.
abbrev pub IsLineFault : List (List ℕ) → List ℕ → LineFault → Type 0
IsLineFault [] line fault = IsSceneLineFault line fault
IsLineFault (first ∷ others) line fault = IsUpdateLineFault line fault

-- The line with this number, counted from 1, is the first faulty one, and has this fault.
pub record HasFaultyLine (lines : List (List ℕ)) (number : ℕ) (fault : LineFault) : Type 0 where
  pub before : List (List ℕ)
  pub line : List ℕ
  pub after : List (List ℕ)
  pub parts : lines ≡ before ++ line ∷ after
  pub counted : number ≡ length before + 1
  pub sound : (head : Heading) × (elements : List ElementValue) × AreKept before head elements
  pub faulty : IsLineFault before line fault

-- The head and the stored elements, in the order of the ids, that a journal is read as.
pub record Recovered : Type 0 where
  pub head : Heading
  pub elements : List ElementValue

-- What lines are read as: all of them, or the first faulty one.
abbrev pub AreReadAs : List (List ℕ) → Result Recovered KeepFault → Type 0
AreReadAs lines (Ok found) = AreKept lines found.head found.elements
AreReadAs lines (Err (Line number fault)) = HasFaultyLine lines number fault

-- What the bytes of a journal are read as: bytes behind the last line count for nothing.
abbrev pub IsRecoveredAs : List ℕ → Result Recovered KeepFault → Type 0
IsRecoveredAs bytes answer = AreReadAs (lines_of bytes) answer

-- There are bytes, and no line of them ends: a journal was begun, and no record of it is whole.
pub record HasNoRecord (bytes : List ℕ) : Type 0 where
  pub some : bytes ≢ []
  pub unended : lines_of bytes ≡ []

-- No line of the bytes ends: they are none, or have no record.
abbrev pub HasNoLine : List ℕ → Type 0
HasNoLine bytes = (bytes ≡ []) ⊎ HasNoRecord bytes
