-- The world of a session: its replicas, the messages between them, and what each event makes of it.
-- This project's own.
use Rattle.std.specs.Prelude.{ℕ, ◌+◌, ◌*◌, List, [], ◌∷◌, ◌++◌, Option, Some, None, Result, Ok, Err, not, filter, flat_map, replicate, take, bytes_eq, option_to_list, slice_get, slice_index_or, slice_set}
use Rattle.std.specs.Option.{option_map_or}
use Rattle.rand_pcg.specs.Lcg.{Lcg}
use Rattle.session_random.specs.Words.{generator_of, next_generator, next_word}
use Rattle.elem.specs.ElementValue.{ElementValue}
use Rattle.delta.specs.Placed.{with_item}
use Rattle.reconcile.specs.Ids.{free_elements}
use Rattle.scene_file.specs.Heads.{Heading}
use Rattle.scene_file.specs.declared.scene.Scene.{Scene}
use Rattle.board_commands.specs.declared.command.Capture.{Capture}
use Rattle.board_commands.specs.declared.command.Command.{Command}
use Rattle.effects.specs.declared.refusal.Refusal.{Refusal}
use Rattle.effects.specs.declared.refusal.Refusal.TheVariants.{VersionFull}
use Rattle.history.specs.declared.planned.Direction.{Direction}
use Rattle.history.specs.declared.planned.Direction.TheVariants as directions
use Rattle.undo_model.specs.Steps.{Turn}
use Rattle.replica.specs.State.{State, nothing, outcome_on, after_change, after_delivery, turn_on, after_turn}
use Rattle.session_text.specs.declared.session.Session.{Session}
use Rattle.session_text.specs.declared.event.Event.{Event}
use Rattle.session_text.specs.declared.event.Event.TheVariants.{Change, Update, Deliver, Hold, Release, Undo, Redo}
use Rattle.session_text.specs.declared.event.Pick.{Pick}
use Rattle.session_text.specs.declared.event.Pick.TheVariants.{All, One}
use Rattle.session.specs.declared.outcome.Outcome.{Outcome}
use Rattle.session.specs.declared.outcome.Outcome.TheVariants.{Given, Refused}
use Rattle.session.specs.declared.report.RefusedEvent.{RefusedEvent}

-- A replica, and the updates that it took, one after another: opening elements, its own changed
-- ones, and delivered ones whose ids weren't held.
pub record Seat : Type 0 where
  pub state : State
  pub taken : List ElementValue

-- The replicas in their order; the messages that were made; what the nonces are drawn from; how
-- many events there were; and those that were refused.
pub record World : Type 0 where
  pub seats : List Seat
  pub messages : List (List ElementValue)
  pub generator : Lcg
  pub events : ℕ
  pub refused : List RefusedEvent

-- ---- a replica
abbrev pub fresh : Seat
fresh = record { state = nothing; taken = [] }

-- after a list was delivered: the elements whose ids aren't held are taken
unfoldable pub delivered : List ElementValue → Seat → Seat
delivered list s = record {
  state = after_delivery list s.state;
  taken = s.taken ++ free_elements s.state.held list;
}

-- the held ids, in the order of their bytes, with one more, and without one
abbrev pub with_id : List ℕ → List (List ℕ) → List (List ℕ)
with_id id ids = with_item (λ (id : List ℕ). id) id ids

abbrev pub without_id : List ℕ → List (List ℕ) → List (List ℕ)
without_id id ids = filter (λ other. not (bytes_eq other id)) ids

abbrev pub holding : List (List ℕ) → Seat → Seat
holding ids s = record s { state = record s.state { held = ids } }

-- what a command comes to; and a step of undo or redo, which is refused without a cause where
-- nothing comes
abbrev pub of_command : Result (List ElementValue) Refusal → Outcome
of_command (Ok given) = Given given
of_command (Err refusal) = Refused (Some refusal)

abbrev pub of_step : Option (Result Turn (List ℕ)) → Outcome
of_step None = Refused None
of_step (Some (Err id)) = Refused (Some (VersionFull id))
of_step (Some (Ok turn)) = Given turn.given

-- What a replica's change, undo or redo comes to: the state after it, and the outcome.
pub record Act : Type 0 where
  pub state : State
  pub outcome : Outcome

unfoldable pub change_on : Command → Capture → ℕ → ℕ → State → Act
change_on command capture time nonce s =
    record {
      state = after_change command capture time nonce s;
      outcome =
          of_command (outcome_on command time nonce s);
    }

unfoldable pub turn_by : Direction → ℕ → ℕ → State → Act
turn_by direction time nonce s = record {
  state = after_turn direction time nonce s;
  outcome = of_step (turn_on direction time nonce s);
}

-- the elements that an outcome gives; none where it is a refusal
abbrev pub given_of : Outcome → List ElementValue
given_of (Given elements) = elements
given_of (Refused why) = []

-- after such an act: the elements that it gives are taken
abbrev pub acted : Act → Seat → Seat
acted act s = record { state = act.state; taken = s.taken ++ given_of act.outcome }

-- ---- the world
abbrev pub seat_at : World → ℕ → Seat
seat_at w at = slice_index_or w.seats at fresh

abbrev pub state_at : World → ℕ → State
state_at w at = (seat_at w at).state

-- the nonce of the next change, undo or redo at a replica: the word, and the replica's number in
-- the last six bits
abbrev pub nonce_at : World → ℕ → ℕ
nonce_at w at = 64 * next_word w.generator + at

-- the refused events, and the one with this number if its outcome is a refusal
abbrev pub with_refused : ℕ → Outcome → List RefusedEvent → List RefusedEvent
with_refused event (Given elements) refused = refused
with_refused event (Refused why) refused = refused ++ record { event = event; why = why } ∷ []

-- A replica made a change, an undo or a redo, or was refused it: a word was drawn, and the elements
-- that came of it, maybe none, are a message.
abbrev pub after_act : ℕ → Act → World → World
after_act at act w = record {
  seats = slice_set w.seats at (acted act (seat_at w at));
  messages = w.messages ++ given_of act.outcome ∷ [];
  generator = next_generator w.generator;
  events = w.events + 1;
  refused = with_refused w.events act.outcome w.refused;
}

-- after an undo, or a redo
abbrev pub after_turn_at : Direction → ℕ → ℕ → World → World
after_turn_at direction at time w =
    after_act at (turn_by direction time (nonce_at w at) (state_at w at)) w

-- A replica came to this without making a message.
abbrev pub after_seat : ℕ → Seat → World → World
after_seat at seat w = record w { seats = slice_set w.seats at seat; events = w.events + 1 }

-- what is picked of messages: a whole one, or one element, if the message has so many
abbrev pub picked : List (List ElementValue) → Pick → List ElementValue
picked messages (All message) = slice_index_or messages message []
picked messages (One message element) =
    option_to_list (slice_get (slice_index_or messages message []) element)

abbrev pub all_picked : List (List ElementValue) → List Pick → List ElementValue
all_picked messages picks = flat_map (picked messages) picks

-- what an event makes of a world
abbrev pub after_event : Event → World → World
after_event (Change at time capture command) w =
    after_act at (change_on command capture time (nonce_at w at) (state_at w at)) w
after_event (Update elements) w =
    record w { messages = w.messages ++ elements ∷ []; events = w.events + 1 }
after_event (Deliver to picks) w =
    after_seat to (delivered (all_picked w.messages picks) (seat_at w to)) w
after_event (Hold at id) w =
    after_seat at (holding (with_id id (state_at w at).held) (seat_at w at)) w
after_event (Release at id) w =
    after_seat at (holding (without_id id (state_at w at).held) (seat_at w at)) w
after_event (Undo at time) w = after_turn_at directions.Undo at time w
after_event (Redo at time) w = after_turn_at directions.Redo at time w

abbrev pub after_events : List Event → World → World
after_events [] w = w
after_events (event ∷ events) w = after_events events (after_event event w)

-- ---- a session
-- the elements of its scene, if it has one, and their head, or an empty one
abbrev pub opening_elements : Session → List ElementValue
opening_elements session = option_map_or (λ (scene : Scene). scene.elements) session.scene []

abbrev pub head_of : Session → Heading
head_of session =
    option_map_or (λ (scene : Scene). scene.head) session.scene
    (record { source = None; app_state = []; files = [] })

-- the world before the first event: each replica was delivered the elements of the scene
abbrev pub opened : Session → World
opened session = record {
  seats = replicate session.replicas (delivered (opening_elements session) fresh);
  messages = [];
  generator = generator_of session.seed;
  events = 0;
  refused = [];
}

-- the world after so many events, and after all
abbrev pub world_after : Session → ℕ → World
world_after session count = after_events (take count session.events) (opened session)

abbrev pub last_world : Session → World
last_world session = after_events session.events (opened session)

-- all elements that there were: those of the scene, and then those of all messages
abbrev pub all_elements : Session → World → List ElementValue
all_elements session w =
    opening_elements session ++ flat_map (λ (message : List ElementValue). message) w.messages
