-- The lines of a living replica: which members they have, in this order. This project's own.
use Rattle.std.specs.Prelude.{◌≡◌, ℕ, ◌<◌, ◌≤◌, List, Option, Some, IfSome, codes}
use Rattle.json_text.specs.Characters.{quote}
use Rattle.json_text.specs.Compact.{Member as Pair}
use Rattle.elem.specs.Facts.{greatest_whole}
use Rattle.elem.specs.Forms.{IsText, IsWholeNumber}
use Rattle.elem.specs.Said.{AreElements}
use Rattle.board_commands.specs.Limits.{IsWithinLimits}
use Rattle.board_commands.specs.Written.{IsWrittenCommand}
use Rattle.scene_file.specs.Reading.{value_unless_null}
use Rattle.scene_file.specs.Whole.{HaveKeys}
use Rattle.scene_file.specs.declared.scene.Scene.{Scene as Board}
use Rattle.session_text.specs.Events.{SceneOf, CommandIn, ElementsIn}
use Rattle.session_text.specs.Forms.{IsFrom, IsCapture}
use Rattle.session_text.specs.Reads.{Reading, MemberOf, Gives, Then, ObjectOf}
use Rattle.session_text.specs.declared.lines.Line.{Line}
use Rattle.session_text.specs.declared.lines.Line.TheVariants as lines
use Rattle.session_text.specs.declared.lines.LineName.{LineName}
use Rattle.session_text.specs.declared.lines.LineName.TheVariants as named
use Rattle.session_text.specs.declared.lines.Opening.{Opening}
use Rattle.session_text.specs.declared.name.MemberName.TheVariants as names

-- ---- the opening
abbrev pub opening : ℕ → ℕ → Option Board → Opening
opening number seed scene = record { number = number; seed = seed; scene = scene }

-- The version is 1, and the number below 64.
abbrev pub OpeningOf : List Pair → Reading Opening
OpeningOf members answer =
    Then (MemberOf names.Replica (IsFrom 1 2) members) (λ version.
    Then (MemberOf names.Number (IsFrom 0 64) members) (λ number.
    Then (MemberOf names.Seed IsWholeNumber members) (λ seed.
    Then (SceneOf (value_unless_null (codes "scene") members))
    (λ scene. Gives (opening number seed scene))))) answer

-- ---- the lines behind it
abbrev pub line_name_text : LineName → List ℕ
line_name_text named.Change = quote (codes "change")
line_name_text named.Undo = quote (codes "undo")
line_name_text named.Redo = quote (codes "redo")
line_name_text named.Take = quote (codes "take")
line_name_text named.Receive = quote (codes "receive")
line_name_text named.Hold = quote (codes "hold")
line_name_text named.Release = quote (codes "release")
line_name_text named.Scene = quote (codes "scene")
line_name_text named.State = quote (codes "state")
line_name_text named.Stored = quote (codes "stored")
line_name_text named.Lengths = quote (codes "lengths")
line_name_text named.Pending = quote (codes "pending")

abbrev pub IsLineName : Option (List ℕ) → LineName → Type 0
IsLineName found name = found ≡ Some (line_name_text name)

abbrev pub LineNamed : List Pair → LineName → Reading Line
LineNamed members named.Change answer =
    Then (MemberOf names.Time IsWholeNumber members) (λ time.
    Then (MemberOf names.Capture IsCapture members) (λ capture.
    Then (CommandIn members) (λ command. Gives (lines.Change time capture command)))) answer
LineNamed members named.Undo answer =
    Then (MemberOf names.Time IsWholeNumber members) (λ time. Gives (lines.Undo time)) answer
LineNamed members named.Redo answer =
    Then (MemberOf names.Time IsWholeNumber members) (λ time. Gives (lines.Redo time)) answer
LineNamed members named.Take answer =
    Then (ElementsIn members) (λ elements. Gives (lines.Take elements)) answer
LineNamed members named.Receive answer =
    Then (MemberOf names.Message IsText members) (λ text. Gives (lines.Receive text)) answer
LineNamed members named.Hold answer =
    Then (MemberOf names.Id IsText members) (λ id. Gives (lines.Hold id)) answer
LineNamed members named.Release answer =
    Then (MemberOf names.Id IsText members) (λ id. Gives (lines.Release id)) answer
LineNamed members named.Scene answer = Gives lines.Scene answer
LineNamed members named.State answer = Gives lines.State answer
LineNamed members named.Stored answer =
    Then (MemberOf names.Id IsText members) (λ id. Gives (lines.Stored id)) answer
LineNamed members named.Lengths answer = Gives lines.Lengths answer
LineNamed members named.Pending answer = Gives lines.Pending answer

abbrev pub LineOf : List Pair → Reading Line
LineOf members answer = Then (MemberOf names.Do IsLineName members) (LineNamed members) answer

-- ---- the texts
abbrev pub OpeningText : List ℕ → Reading Opening
OpeningText text answer = ObjectOf OpeningOf text answer

abbrev pub LineText : List ℕ → Reading Line
LineText text answer = ObjectOf LineOf text answer

-- ---- what holds of all that is read
-- Its time is within the limit of times, and its command within those of commands.
abbrev pub IsLineWithinLimits : Line → Type 0
IsLineWithinLimits (lines.Change time capture command) =
    (time ≤ greatest_whole) × IsWithinLimits command
IsLineWithinLimits (lines.Undo time) = time ≤ greatest_whole
IsLineWithinLimits (lines.Redo time) = time ≤ greatest_whole
IsLineWithinLimits (lines.Take elements) = Unit {0}
IsLineWithinLimits (lines.Receive text) = Unit {0}
IsLineWithinLimits (lines.Hold id) = Unit {0}
IsLineWithinLimits (lines.Release id) = Unit {0}
IsLineWithinLimits lines.Scene = Unit {0}
IsLineWithinLimits lines.State = Unit {0}
IsLineWithinLimits (lines.Stored id) = Unit {0}
IsLineWithinLimits lines.Lengths = Unit {0}
IsLineWithinLimits lines.Pending = Unit {0}

-- What it brings is of elements: those that are taken are, and what a command creates; and the
-- texts that this writes are UTF-8.
abbrev pub LineBringsElements : Line → Type 0
LineBringsElements (lines.Change time capture command) = IsWrittenCommand command
LineBringsElements (lines.Undo time) = Unit {0}
LineBringsElements (lines.Redo time) = Unit {0}
LineBringsElements (lines.Take elements) = AreElements elements
LineBringsElements (lines.Receive text) = Unit {0}
LineBringsElements (lines.Hold id) = Unit {0}
LineBringsElements (lines.Release id) = Unit {0}
LineBringsElements lines.Scene = Unit {0}
LineBringsElements lines.State = Unit {0}
LineBringsElements (lines.Stored id) = Unit {0}
LineBringsElements lines.Lengths = Unit {0}
LineBringsElements lines.Pending = Unit {0}

-- It is one of 64 replicas. The seed is within its limit, and those of the scene are elements, each
-- with a key.
pub record IsReplicaOpening (opening : Opening) : Type 0 where
  pub number : opening.number < 64
  pub seed : opening.seed ≤ greatest_whole
  pub keys : IfSome opening.scene (λ (scene : Board). HaveKeys scene.elements)
  pub elements : IfSome opening.scene (λ (scene : Board). AreElements scene.elements)
