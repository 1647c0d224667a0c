-- The header and the events of a session: which members they have, in this order. This project's
-- own.
use Rattle.std.specs.Prelude.{◌≡◌, ℕ, List, Option, Some, None, Ok, Err, codes}
use Rattle.json_text.specs.Characters.{quote}
use Rattle.json_text.specs.Compact.{Member as Pair}
use Rattle.elem.specs.ElementValue.{ElementValue}
use Rattle.elem.specs.Forms.{IsText, IsWholeNumber}
use Rattle.elem_read.specs.Elements.{AreRead, IsFirstFaulty}
use Rattle.elem_read.specs.declared.fault.ElemFault.{ElemFault}
use Rattle.board_commands.specs.declared.command.Command.{Command}
use Rattle.scene_file.specs.Reading.{value_unless_null, IsSceneOf, IsSceneFault}
use Rattle.scene_file.specs.declared.scene.Scene.{Scene as Board}
use Rattle.scene_file.specs.declared.fault.SceneFault.{SceneFault}
use Rattle.session_text.specs.Commands.{CommandOf}
use Rattle.session_text.specs.Forms.{IsFrom, IsArray, HasObject, IsCapture, HasPicks}
use Rattle.session_text.specs.Reads.{Reading, MemberOf, Gives, Then, ObjectOf}
use Rattle.session_text.specs.declared.event.Event.{Event}
use Rattle.session_text.specs.declared.event.Event.TheVariants as events
use Rattle.session_text.specs.declared.fault.TextFault.TheVariants.{Scene, Element}
use Rattle.session_text.specs.declared.happening.Happening.{Happening}
use Rattle.session_text.specs.declared.happening.Happening.TheVariants as happenings
use Rattle.session_text.specs.declared.header.Header.{Header}
use Rattle.session_text.specs.declared.name.MemberName.TheVariants as names

-- ---- the header
-- The scene that is given, if one is; null counts as missing.
abbrev pub SceneOf : Option (List ℕ) → Reading (Option Board)
SceneOf None answer = answer ≡ Ok None
SceneOf (Some value) (Ok None) = ⊥
SceneOf (Some value) (Ok (Some scene)) = IsSceneOf value scene
SceneOf (Some value) (Err fault) = (why : SceneFault) × (fault ≡ Scene why) × IsSceneFault value why

abbrev pub header : ℕ → ℕ → Option Board → Header
header replicas seed scene = record { replicas = replicas; seed = seed; scene = scene }

-- The version is 1, and there are 1 to 64 replicas.
abbrev pub HeaderOf : List Pair → Reading Header
HeaderOf members answer =
    Then (MemberOf names.Session (IsFrom 1 2) members) (λ version.
    Then (MemberOf names.Replicas (IsFrom 1 65) members) (λ replicas.
    Then (MemberOf names.Seed IsWholeNumber members) (λ seed.
    Then (SceneOf (value_unless_null (codes "scene") members))
    (λ scene. Gives (header replicas seed scene))))) answer

-- ---- the events
abbrev pub happening_text : Happening → List ℕ
happening_text happenings.Change = quote (codes "change")
happening_text happenings.Update = quote (codes "update")
happening_text happenings.Deliver = quote (codes "deliver")
happening_text happenings.Hold = quote (codes "hold")
happening_text happenings.Release = quote (codes "release")
happening_text happenings.Undo = quote (codes "undo")
happening_text happenings.Redo = quote (codes "redo")

abbrev pub IsHappening : Option (List ℕ) → Happening → Type 0
IsHappening found name = found ≡ Some (happening_text name)

-- The values are these elements, those of type `selection` left out.
abbrev pub AreDrawnAs : List (List ℕ) → Reading (List ElementValue)
AreDrawnAs values (Ok elements) = AreRead values elements
AreDrawnAs values (Err fault) =
    (place : ℕ) × (why : ElemFault) × (fault ≡ Element place why) × IsFirstFaulty values place why

-- a replica and a time
abbrev pub TimeOf : ℕ → List Pair → Reading (ℕ × ℕ)
TimeOf replicas members answer =
    Then (MemberOf names.At (IsFrom 0 replicas) members)
    (λ at. Then (MemberOf names.Time IsWholeNumber members) (λ time. Gives (at, time))) answer

-- a replica and an id
abbrev pub HeldOf : ℕ → List Pair → Reading (ℕ × List ℕ)
HeldOf replicas members answer =
    Then (MemberOf names.At (IsFrom 0 replicas) members)
    (λ at. Then (MemberOf names.Id IsText members) (λ id. Gives (at, id))) answer

-- the command
abbrev pub CommandIn : List Pair → Reading Command
CommandIn members answer = Then (MemberOf names.Command HasObject members) CommandOf answer

-- the elements
abbrev pub ElementsIn : List Pair → Reading (List ElementValue)
ElementsIn members answer = Then (MemberOf names.Elements IsArray members) AreDrawnAs answer

-- With so many replicas, and so many messages made by the events before.
abbrev pub EventNamed : ℕ → ℕ → List Pair → Happening → Reading Event
EventNamed replicas made members happenings.Change answer =
    Then (TimeOf replicas members) (λ when.
    Then (MemberOf names.Capture IsCapture members) (λ capture.
    Then (CommandIn members) (λ command. Gives (events.Change when.0 when.1 capture command))))
    answer
EventNamed replicas made members happenings.Update answer =
    Then (ElementsIn members) (λ elements. Gives (events.Update elements)) answer
EventNamed replicas made members happenings.Deliver answer =
    Then (MemberOf names.To (IsFrom 0 replicas) members) (λ to.
    Then (MemberOf names.Picks (HasPicks made) members) (λ picks. Gives (events.Deliver to picks)))
    answer
EventNamed replicas made members happenings.Hold answer =
    Then (HeldOf replicas members) (λ held. Gives (events.Hold held.0 held.1)) answer
EventNamed replicas made members happenings.Release answer =
    Then (HeldOf replicas members) (λ held. Gives (events.Release held.0 held.1)) answer
EventNamed replicas made members happenings.Undo answer =
    Then (TimeOf replicas members) (λ when. Gives (events.Undo when.0 when.1)) answer
EventNamed replicas made members happenings.Redo answer =
    Then (TimeOf replicas members) (λ when. Gives (events.Redo when.0 when.1)) answer

abbrev pub EventOf : ℕ → ℕ → List Pair → Reading Event
EventOf replicas made members answer =
    Then (MemberOf names.Do IsHappening members) (EventNamed replicas made members) answer

-- ---- the texts
abbrev pub HeaderText : List ℕ → Reading Header
HeaderText text answer = ObjectOf HeaderOf text answer

abbrev pub EventText : ℕ → ℕ → List ℕ → Reading Event
EventText replicas made text answer = ObjectOf (EventOf replicas made) text answer
