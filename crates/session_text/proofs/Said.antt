-- What members say that have the name of a command, or of an event, and what belongs to it.
use Rattle.std.proofs.Common.{◌≡◌, ℕ, List, Some, Ok, codes, refl}
use Rattle.json_text.specs.Characters.{quote}
use Rattle.json_text.specs.Compact.{Member as Pair}
use Rattle.json_text.specs.declared.text.Member.{Member}
use Rattle.scene_json.specs.Named.{value_at}
use Rattle.elem.specs.ElementValue.{ElementValue}
use Rattle.elem.specs.Forms.{IsText}
use Rattle.board_commands.specs.declared.command.Capture.{Capture}
use Rattle.board_commands.specs.declared.command.Command.{Command}
use Rattle.board_commands.specs.declared.command.Command.TheVariants as commands
use Rattle.board_commands.specs.declared.command.Side.{Side}
use Rattle.board_commands.specs.declared.command.Spot.{Spot}
use Rattle.session_text.specs.Commands.{ElementOf, CommandOf}
use Rattle.session_text.specs.Events.{TimeOf, CommandIn, EventOf}
use Rattle.session_text.specs.Forms.{IsFrom, IsShallow, AreIds, IsCapture, IsSide, IsSpot, IsRest, HasPicks}
use Rattle.session_text.specs.Reads.Then.{goes_on}
use Rattle.session_text.specs.declared.command.Asked.TheVariants as asked
use Rattle.session_text.specs.declared.event.Event.TheVariants as events
use Rattle.session_text.specs.declared.event.Pick.{Pick}
use Rattle.session_text.specs.declared.happening.Happening.TheVariants as happenings

-- These members have this value under a name.
abbrev pub Has : List Pair → List ℕ → List ℕ → Type 0
Has members name value = value_at name members ≡ Some value

-- ---- commands
pub create-said : (members : List Pair) (e : ElementValue) (spot : Spot)
    → Has members (codes "name") (quote (codes "create")) → ElementOf members (Ok e)
    → IsSpot (value_at (codes "spot") members) spot →
    CommandOf members (Ok (commands.Create e spot))
create-said members e spot named element place =
    goes_on asked.Create named (goes_on e element (goes_on spot place refl))

pub set-said : (members : List Pair) (id name value : List ℕ) → Has members (codes "name") (quote (codes "set"))
    → IsText (value_at (codes "id") members) id → IsText (value_at (codes "member") members) name →
    IsShallow (value_at (codes "value") members) value → CommandOf members (Ok (commands.Set id name value))
set-said members id name value named one two three =
    goes_on asked.Set named (goes_on id one (goes_on name two (goes_on value three refl)))

pub delete-said : (members : List Pair) (ids : List (List ℕ)) → Has members (codes "name") (quote (codes "delete"))
    → AreIds (value_at (codes "ids") members) ids →
    CommandOf members (Ok (commands.Delete ids))
delete-said members ids named are = goes_on asked.Delete named (goes_on ids are refl)

pub place-said : (members : List Pair) (id : List ℕ) (spot : Spot) → Has members (codes "name") (quote (codes "place"))
    → IsText (value_at (codes "id") members) id →
    IsSpot (value_at (codes "spot") members) spot → CommandOf members (Ok (commands.Place id spot))
place-said members id spot named one two = goes_on asked.Place named (goes_on id one (goes_on spot two refl))

pub bind-said : (members : List Pair) (arrow : List ℕ) (side : Side) (target : List ℕ) (rest : List Member)
    → Has members (codes "name") (quote (codes "bind")) → IsText (value_at (codes "arrow") members) arrow →
    IsSide (value_at (codes "end") members) side → IsText (value_at (codes "target") members) target
    → IsRest (value_at (codes "binding") members) rest
    → CommandOf members (Ok (commands.Bind arrow side target rest))
bind-said members arrow side target rest named one two three four =
    goes_on asked.Bind named (goes_on (arrow, side) (goes_on arrow one (goes_on side two refl))
    (goes_on target three (goes_on rest four refl)))

pub label-said : (members : List Pair) (container text : List ℕ) → Has members (codes "name") (quote (codes "label"))
    → IsText (value_at (codes "container") members) container →
    IsText (value_at (codes "text") members) text → CommandOf members (Ok (commands.Label container text))
label-said members container text named one two =
    goes_on asked.Label named (goes_on container one (goes_on text two refl))

pub frame-said : (members : List Pair) (ids : List (List ℕ)) (frame : List ℕ)
    → Has members (codes "name") (quote (codes "frame")) → AreIds (value_at (codes "ids") members) ids →
    IsText (value_at (codes "frame") members) frame → CommandOf members (Ok (commands.Frame ids frame))
frame-said members ids frame named one two =
    goes_on asked.Frame named (goes_on (ids, frame) (goes_on ids one (goes_on frame two refl)) refl)

pub group-said : (members : List Pair) (ids : List (List ℕ)) (group : List ℕ)
    → Has members (codes "name") (quote (codes "group")) → AreIds (value_at (codes "ids") members) ids →
    IsText (value_at (codes "group") members) group → CommandOf members (Ok (commands.Group ids group))
group-said members ids group named one two =
    goes_on asked.Group named (goes_on (ids, group) (goes_on ids one (goes_on group two refl)) refl)

-- ---- events
pub change-said : (replicas made : ℕ) (members : List Pair) (at time : ℕ) (capture : Capture) (command : Command)
    → Has members (codes "do") (quote (codes "change")) → TimeOf replicas members (Ok (at, time)) →
    IsCapture (value_at (codes "capture") members) capture → CommandIn members (Ok command)
    → EventOf replicas made members (Ok (events.Change at time capture command))
change-said replicas made members at time capture command named when is asks =
    goes_on happenings.Change named (goes_on (at, time) when (goes_on capture is (goes_on command asks refl)))

pub undo-said : (replicas made : ℕ) (members : List Pair) (at time : ℕ)
    → Has members (codes "do") (quote (codes "undo")) → TimeOf replicas members (Ok (at, time)) →
    EventOf replicas made members (Ok (events.Undo at time))
undo-said replicas made members at time named when = goes_on happenings.Undo named (goes_on (at, time) when refl)

pub redo-said : (replicas made : ℕ) (members : List Pair) (at time : ℕ)
    → Has members (codes "do") (quote (codes "redo")) → TimeOf replicas members (Ok (at, time)) →
    EventOf replicas made members (Ok (events.Redo at time))
redo-said replicas made members at time named when = goes_on happenings.Redo named (goes_on (at, time) when refl)

pub deliver-said : (replicas made : ℕ) (members : List Pair) (to : ℕ) (picks : List Pick)
    → Has members (codes "do") (quote (codes "deliver")) → IsFrom 0 replicas (value_at (codes "to") members) to →
    HasPicks made (value_at (codes "picks") members) picks
    → EventOf replicas made members (Ok (events.Deliver to picks))
deliver-said replicas made members to picks named is has =
    goes_on happenings.Deliver named (goes_on to is (goes_on picks has refl))
