-- What is planned for an event, from the parts of a plan; and the step that a plan makes.
use Rattle.std.proofs.Common.{◌≡◌, ℕ, true, false, List, [], ◌∷◌, None, Result, Ok, Err, IfOk, refl, ap, subst, ◌∙◌, append-nil}
use Rattle.std.specs.declared.alloc.AllocError.{AllocError}
use Rattle.elem.specs.ElementValue.{ElementValue}
use Rattle.board_ends.specs.declared.links.LinkEvent.{LinkEvent}
use Rattle.board_ends.specs.declared.links.LinkEvent.TheVariants.{Opened, Text, Closed, Idle}
use Rattle.room_msg.specs.Messages.{IsReadAs}
use Rattle.room_msg.specs.Texts.{message_text}
use Rattle.room_msg.specs.declared.fault.MsgFault.{MsgFault}
use Rattle.room_msg.specs.declared.message.Message.{Message}
use Rattle.room_msg.specs.declared.message.Message.TheVariants.{Init, Update, Presence}
use Rattle.room_core.specs.Planned.{IsPlanned, IsChanged, joined_by, record_in, record_of_message, taken_by, texts_told}
use Rattle.room_core.specs.inner.Planned.{change_by}
use Rattle.room_core.specs.Rooms.{RoomState, Joined, Heard, Left, Nothing, IsRoomStep, HaveTaken, invalid_text, is_among, message_updates, text_for_each, without}
use Rattle.room_core.specs.declared.plan.Change.{Change}
use Rattle.room_core.specs.declared.plan.Change.TheVariants.{Join, Leave, Unchanged}
use Rattle.room_core.specs.declared.plan.Plan.{Plan}

-- a plan that tells nothing
abbrev quiet : Change → Plan
quiet change = record { change = change; told = record { links = []; text = [] }; own_record = None }

-- no updates change nothing
pub none_taken : (old new : List ElementValue) → new ≡ old → HaveTaken old [] new
none_taken old new same updates are = rw (append-nil updates, same) are

-- what a message changes is that its updates are taken, and no link joins or leaves
taken-updates : (message : Message) → taken_by (change_by message) ≡ message_updates message
taken-updates (Init elements) = refl
taken-updates (Update elements) = refl
taken-updates (Presence value) = refl

joined-stay : (joined : List ℕ) (message : Message) → joined_by joined (change_by message) ≡ joined
joined-stay joined (Init elements) = refl
joined-stay joined (Update elements) = refl
joined-stay joined (Presence value) = refl

pub planned-joined : (old : RoomState) (link : ℕ) (links text : List ℕ) → links ≡ link ∷ []
    → text ≡ message_text (Init old.elements)
    → IsPlanned old (Opened link) (record {
      change = Join link;
      told = record { links = links; text = text };
      own_record = None;
    })
planned-joined old link links text one is =
    record { happening = Joined link; heard = refl; told = rw (one, is) refl; taken = refl; joined = refl; kept = refl }

pub planned-ignored : (old : RoomState) (link : ℕ) (bytes : List ℕ) → is_among old.joined link ≡ false
    → IsPlanned old (Text link bytes) (quiet Unchanged)
planned-ignored old link bytes other =
    record { happening = Nothing; heard = rw other refl; told = refl; taken = refl; joined = refl; kept = refl }

pub planned-closed : (old : RoomState) (link : ℕ) → IsPlanned old (Closed link) (quiet (Leave link))
planned-closed old link =
    record { happening = Left (link ∷ []); heard = refl; told = refl; taken = refl; joined = refl; kept = refl }

pub planned-idle : (old : RoomState) → IsPlanned old Idle (quiet Unchanged)
planned-idle old = record { happening = Nothing; heard = refl; told = refl; taken = refl; joined = refl; kept = refl }

pub planned-message : (old : RoomState) (sender : ℕ) (bytes : List ℕ) (message : Message) (plan : Plan)
    → is_among old.joined sender ≡ true → IsReadAs bytes (Ok message)
    → texts_told plan.told ≡ text_for_each (without old.joined (sender ∷ [])) (message_text message)
    → plan.change ≡ change_by message
    → record_in plan ≡ record_of_message message → IsPlanned old (Text sender bytes) plan
planned-message old sender bytes message plan member read told change kept = record {
  happening = Heard sender (Ok message);
  heard = rw member (Ok message, read, refl);
  told = told;
  taken = ap taken_by change ∙ taken-updates message;
  joined = ap (joined_by old.joined) change ∙ joined-stay old.joined message;
  kept = kept;
}

pub planned-fault : (old : RoomState) (sender : ℕ) (bytes : List ℕ) (fault : MsgFault) (links text : List ℕ)
    → is_among old.joined sender ≡ true
    → IsReadAs bytes (Err fault) → links ≡ sender ∷ [] → text ≡ invalid_text fault
    → IsPlanned old (Text sender bytes) (record {
      change = Unchanged;
      told = record { links = links; text = text };
      own_record = None;
    })
planned-fault old sender bytes fault links text member read one is = record {
  happening = Heard sender (Err fault);
  heard = rw member (Err fault, read, refl);
  told = rw (one, is) refl;
  taken = refl;
  joined = refl;
  kept = refl;
}

pub relay-planned : (joined : List ℕ) (sender : ℕ) (bytes : List ℕ) (message : Message) (r : Result Plan AllocError)
    → is_among joined sender ≡ true → IsReadAs bytes (Ok message)
    → IfOk r (λ plan. texts_told plan.told ≡ text_for_each (without joined (sender ∷ [])) (message_text message))
    → IfOk r (λ plan. plan.change ≡ change_by message)
    → IfOk r (λ plan. record_in plan ≡ record_of_message message)
    → IfOk r (λ plan. (elements : List ElementValue)
    → IsPlanned (record { elements = elements; joined = joined }) (Text sender bytes) plan)
relay-planned joined sender bytes message (Ok plan) member read told change kept =
    λ elements. planned-message (record { elements = elements; joined = joined }) sender bytes message plan member read
    told change kept
relay-planned joined sender bytes message (Err e) member read told change kept = tt

-- a plan that is put makes the step of the event that it was planned for
pub put-stepped : (old new : RoomState) (event : LinkEvent) (plan : Plan) → IsPlanned old event plan
    → IsChanged old plan.change new → IsRoomStep old event new (texts_told plan.told)
put-stepped old new event plan planned changed = record {
  happening = planned.happening;
  heard = planned.heard;
  told = planned.told;
  after = record {
    elements = subst (λ taken. HaveTaken old.elements taken new.elements) planned.taken changed.elements;
    joined = changed.joined ∙ planned.joined;
  };
}
