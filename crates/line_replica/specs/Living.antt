-- A replica in a program of its own: what it is opened with, what each line makes of it, and what a
-- line is answered with. This project's own.
use Rattle.std.specs.Prelude.{◌≡◌, ℕ, ◌+◌, ◌*◌, List, [], ◌∷◌, Bool, true, false, Option, Some, None, Result, Ok, Err, length, codes, decimal}
use Rattle.std.specs.Option.{option_map_or}
use Rattle.rand_pcg.specs.Lcg.{Lcg}
use Rattle.session_random.specs.Words.{generator_of, next_generator, next_word}
use Rattle.json_text.specs.Characters.{quote}
use Rattle.json_text.specs.Compact.{object_text}
use Rattle.json_text.specs.Tree.{null_word}
use Rattle.elem.specs.ElementValue.{ElementValue}
use Rattle.elem.specs.Texts.{element_text, truth_text}
use Rattle.elem_store.specs.Updates.{element_of}
use Rattle.delta.specs.Pairs.{Pair}
use Rattle.effects.specs.declared.refusal.Refusal.{Refusal}
use Rattle.effects.specs.declared.refusal.Refusal.TheVariants.{VersionFull}
use Rattle.board_commands.specs.declared.command.Capture.{Capture}
use Rattle.board_commands.specs.declared.command.Command.{Command}
use Rattle.reconcile.specs.Ids.{free_elements}
use Rattle.scene_file.specs.Heads.{Heading}
use Rattle.scene_file.specs.Scenes.{scene_text, state_text}
use Rattle.history.specs.declared.planned.Direction.{Direction}
use Rattle.history.specs.declared.planned.Direction.TheVariants as directions
use Rattle.undo_model.specs.Differing.{pending}
use Rattle.undo_model.specs.Steps.{Turn}
use Rattle.replica.specs.State.{State, outcome_on, turn_on}
use Rattle.room_msg.specs.Faults.{message_fault_words}
use Rattle.room_msg.specs.Messages.{IsReadAs}
use Rattle.room_msg.specs.Texts.{message_text}
use Rattle.room_msg.specs.declared.fault.MsgFault.{MsgFault}
use Rattle.room_msg.specs.declared.message.Message.{Message}
use Rattle.room_msg.specs.declared.message.Message.TheVariants as messages
use Rattle.session_text.specs.declared.event.Event.{Event}
use Rattle.session_text.specs.declared.lines.Line.{Line}
use Rattle.session_text.specs.declared.lines.Line.TheVariants as lines
use Rattle.session_text.specs.declared.lines.Opening.{Opening}
use Rattle.session_text.specs.declared.session.Session.{Session}
use Rattle.session.specs.Reports.{shown_at}
use Rattle.session.specs.Texts.{refusal_members}
use Rattle.session.specs.Worlds.{Act, Seat, acted, change_on, delivered, fresh, head_of, holding, opening_elements, turn_by, with_id, without_id}

-- A replica: its number, what its nonces are drawn from, the head of the scene that it was opened
-- with, and its seat, as a replica of a session has one.
pub record Living : Type 0 where
  pub number : ℕ
  pub generator : Lcg
  pub head : Heading
  pub seat : Seat

-- the session of 64 replicas with the seed and the scene of an opening, in which these events
-- happen
abbrev pub session_of : Opening → List Event → Session
session_of opening events =
    record { replicas = 64; seed = opening.seed; scene = opening.scene; events = events }

-- the replica that is opened: the elements of the scene were delivered to it
abbrev pub opened_as : Opening → Living
opened_as opening = record {
  number = opening.number;
  generator = generator_of opening.seed;
  head = head_of (session_of opening []);
  seat = delivered (opening_elements (session_of opening [])) fresh;
}

-- the nonce of the next change, undo or redo: the word, and the replica's number in the last six
-- bits
abbrev pub nonce_of : Living → ℕ
nonce_of l = 64 * next_word l.generator + l.number

-- ---- answers
-- the object with this member alone
abbrev pub told : List ℕ → List ℕ → List ℕ
told name value = object_text ((name, value) ∷ [])

-- what an opening, a fault with these words, and elements of which so many were taken are answered
-- with
abbrev pub opened_text : List ℕ
opened_text = told (codes "replica") (codes "1")

abbrev pub fault_text : List ℕ → List ℕ
fault_text words = told (codes "fault") (quote words)

abbrev pub taken_text : ℕ → List ℕ
taken_text count = told (codes "taken") (decimal count)

-- elements that change are told by the message of an update, and a refusal as a session tells it;
-- without a cause it is of nothing to undo or to redo
abbrev pub update_text : List ElementValue → List ℕ
update_text elements = message_text (messages.Update elements)

abbrev pub refusal_text : Option Refusal → List ℕ
refusal_text why = object_text (refusal_members why)

-- what a command is answered with, and what a step of undo or redo is
abbrev pub command_text : Result (List ElementValue) Refusal → List ℕ
command_text (Ok given) = update_text given
command_text (Err refusal) = refusal_text (Some refusal)

abbrev pub step_text : Option (Result Turn (List ℕ)) → List ℕ
step_text None = refusal_text None
step_text (Some (Err id)) = refusal_text (Some (VersionFull id))
step_text (Some (Ok turn)) = update_text turn.given

-- so many entries can be undone, and so many redone
abbrev pub lengths_text : ℕ → ℕ → List ℕ
lengths_text undo redo =
    object_text ((codes "undo", decimal undo) ∷ (codes "redo", decimal redo) ∷ [])

-- the stored element with this id, or null
abbrev pub stored_text : List ℕ → State → List ℕ
stored_text id s =
    told (codes "stored") (option_map_or element_text (element_of s.stored id) null_word)

-- whether something is pending, which is what was captured later and no step has captured since
abbrev pub is_some : List Pair → Bool
is_some [] = false
is_some (pair ∷ pairs) = true

abbrev pub pending_text : State → List ℕ
pending_text s = told (codes "pending") (truth_text (is_some (pending s.snapshot s.stored)))

-- ---- replies
-- An answer, without the line feed that ends it, and the replica after it.
pub record Reply : Type 0 where
  pub text : List ℕ
  pub after : Living

-- nothing is changed
abbrev pub unchanged : List ℕ → Living → Reply
unchanged text l = record { text = text; after = l }

-- the replica comes to this seat
abbrev pub seated : List ℕ → Seat → Living → Reply
seated text seat l = record { text = text; after = record l { seat = seat } }

-- a change, an undo or a redo, be it refused or not: a word was drawn
abbrev pub of_act : List ℕ → Act → Living → Reply
of_act text act l = record {
  text = text;
  after = record l { generator = next_generator l.generator; seat = acted act l.seat };
}

abbrev pub of_change : Command → Capture → ℕ → Living → Reply
of_change command capture time l =
    of_act (command_text (outcome_on command time (nonce_of l) l.seat.state))
    (change_on command capture time (nonce_of l) l.seat.state) l

abbrev pub of_turn : Direction → ℕ → Living → Reply
of_turn direction time l =
    of_act (step_text (turn_on direction time (nonce_of l) l.seat.state))
    (turn_by direction time (nonce_of l) l.seat.state) l

-- elements from elsewhere are taken, but for those whose ids are held
abbrev pub of_taking : List ElementValue → Living → Reply
of_taking elements l =
    seated (taken_text (length (free_elements l.seat.state.held elements)))
    (delivered elements l.seat) l

-- the elements that a message brings
abbrev pub brought_by : Message → List ElementValue
brought_by (messages.Init elements) = elements
brought_by (messages.Update elements) = elements
brought_by (messages.Presence value) = []

-- a message from elsewhere: its elements are taken, or it has a fault
abbrev pub of_read : Result Message MsgFault → Living → Reply
of_read (Ok message) l = of_taking (brought_by message) l
of_read (Err fault) l = unchanged (fault_text (message_fault_words fault)) l

-- A line of an opened replica has this reply.
abbrev pub IsReply : Living → Line → Reply → Type 0
IsReply l (lines.Change time capture command) reply = reply ≡ of_change command capture time l
IsReply l (lines.Undo time) reply = reply ≡ of_turn directions.Undo time l
IsReply l (lines.Redo time) reply = reply ≡ of_turn directions.Redo time l
IsReply l (lines.Take elements) reply = reply ≡ of_taking elements l
IsReply l (lines.Receive text) reply =
    (read : Result Message MsgFault) × IsReadAs text read × (reply ≡ of_read read l)
IsReply l (lines.Hold id) reply =
    reply ≡ seated (told (codes "held") (truth_text true))
    (holding (with_id id l.seat.state.held) l.seat) l
IsReply l (lines.Release id) reply =
    reply ≡ seated (told (codes "held") (truth_text false))
    (holding (without_id id l.seat.state.held) l.seat) l
IsReply l lines.Scene reply =
    reply ≡ unchanged (told (codes "scene") (scene_text l.head (shown_at l.seat))) l
IsReply l lines.State reply =
    reply ≡ unchanged (told (codes "state") (state_text l.head l.seat.state.stored)) l
IsReply l (lines.Stored id) reply = reply ≡ unchanged (stored_text id l.seat.state) l
IsReply l lines.Lengths reply =
    reply ≡ unchanged (lengths_text (length l.seat.state.undo) (length l.seat.state.redo)) l
IsReply l lines.Pending reply = reply ≡ unchanged (pending_text l.seat.state) l
