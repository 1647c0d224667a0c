-- What holds of the world of a session after every event: its states are sound, and all updates in it are elements.
use Rattle.std.proofs.Common.{◌≡◌, ◌≤◌, ◌<◌, ◌-◌, ℕ, zero, suc, not, List, [], ◌∷◌, ◌++◌, length, take, drop, get_or, set, option_to_list, slice_get, Option, Some, None, IfSome, Result, Ok, Err, Contains, refl, sym, ◌∙◌, subst, length-set, take-append-drop, arith}
use Rattle.std.specs.List.{All, AllByRecursion}
use Rattle.std.specs.Option.{option_map_or}
use Rattle.std.proofs.lemmas.List.{length-replicate}
use Rattle.std.proofs.lemmas.List.Elements.{All-nil, All-cons, All-head, All-tail, All-append, All-push, All-set, All-get_or, All-replicate, All-contains, All-filter}
use Rattle.elem.specs.ElementValue.{ElementValue}
use Rattle.elem.specs.Facts.{IsElement, greatest_whole}
use Rattle.elem.specs.Said.{HasValidTexts, AreElements}
use Rattle.board_commands.specs.declared.command.Capture.{Capture}
use Rattle.board_commands.specs.declared.command.Command.{Command}
use Rattle.effects.specs.declared.refusal.Refusal.{Refusal}
use Rattle.board_commands.specs.Limits.{IsWithinLimits}
use Rattle.undo_model.specs.Steps.{Turn}
use Rattle.elem_store.specs.Updates.{is_among}
use Rattle.reconcile.specs.Ids.{free_elements}
use Rattle.history.specs.declared.planned.Direction.{Direction}
use Rattle.history.specs.declared.planned.Direction.TheVariants as directions
use Rattle.replica.specs.Sound.{IsSoundState}
use Rattle.replica.specs.State.{State, outcome_on, turn_on}
use Rattle.scene_file.specs.declared.scene.Scene.{Scene}
use Rattle.session_text.specs.Facts.{IsAmong, IsEventWithinLimits, BringsElements, IsSession}
use Rattle.session_text.specs.declared.event.Event.{Event}
use Rattle.session_text.specs.declared.event.Event.TheVariants.{Change, Update, Deliver, Hold, Release, Undo, Redo}
use Rattle.session_text.specs.declared.event.Pick.{Pick}
use Rattle.session_text.specs.declared.event.Pick.TheVariants.{All as Whole, One}
use Rattle.session_text.specs.declared.session.Session.{Session}
use Rattle.session_random.proofs.CallerLemmas.{word-below}
use Rattle.session.specs.Worlds.{Seat, World, Act, fresh, delivered, holding, with_id, without_id, of_command, of_step, change_on, turn_by, given_of, acted, seat_at, state_at, nonce_at, after_act, after_seat, picked, all_picked, after_event, after_events, opening_elements, opened, world_after}
use Rattle.board_commands.specs.Written.{IsWrittenCommand}
use Rattle.session_laws.proofs.SoundStates.{IsKept, kept-sound, kept-nothing, change-kept, command-given, delivery-kept, after-kept, turn-of}

-- an element as its type keeps it
abbrev Is : ElementValue → Type 0
Is e = IsElement e × HasValidTexts e

-- ---- nonces
pub nonce-small : (w : World) (at : ℕ) → at < 64 → nonce_at w at ≤ greatest_whole
nonce-small w at below = let word = word-below w.generator in omega arith

-- ---- seats and messages
-- the state of a seat is kept, and what it took are elements
pub record IsKeptSeat (s : Seat) : Type 0 where
  pub state : IsKept s.state
  pub taken : AreElements s.taken

-- So it is of each seat, each message is of elements, and there are so many seats.
pub record IsKeptWorld (replicas : ℕ) (w : World) : Type 0 where
  pub seats : All IsKeptSeat w.seats
  pub messages : All AreElements w.messages
  pub count : length w.seats ≡ replicas

-- an event at a seat that there is, within its limits, that brings elements
pub record IsKeptEvent (replicas : ℕ) (event : Event) : Type 0 where
  pub among : IsAmong replicas event
  pub within : IsEventWithinLimits event
  pub brings : BringsElements event

kept-fresh : IsKeptSeat fresh
kept-fresh = record { state = kept-nothing; taken = All-nil Is }

module _ (replicas : ℕ) (w : World) (kept : IsKeptWorld replicas w) where
  pub seat-kept : (at : ℕ) → at < replicas → IsKeptSeat (seat_at w at)
  seat-kept at among =
      let l : at < length w.seats = omega (arith, kept.count) in All-get_or IsKeptSeat w.seats at fresh l kept.seats

  put-kept : (at : ℕ) (s : Seat) → IsKeptSeat s → All IsKeptSeat (set w.seats at s)
  put-kept at s is = All-set IsKeptSeat w.seats at s is kept.seats

  put-count : (at : ℕ) (s : Seat) → length (set w.seats at s) ≡ replicas
  put-count at s = length-set w.seats at s ∙ kept.count

  -- a replica came to this without making a message
  after_seat-kept : (at : ℕ) (s : Seat) → IsKeptSeat s → IsKeptWorld replicas (after_seat at s w)
  after_seat-kept at s is = record { seats = put-kept at s is; messages = kept.messages; count = put-count at s }

  -- a replica made a change, an undo or a redo
  after_act-kept : (at : ℕ) (act : Act) → at < replicas → IsKept act.state → AreElements (given_of act.outcome)
      → IsKeptWorld replicas (after_act at act w)
  after_act-kept at act among is are =
      let own = seat-kept at among in
      record {
        seats = put-kept at (acted act (seat_at w at))
            (record { state = is; taken = All-append Is (seat_at w at).taken (given_of act.outcome) own.taken are });
        messages = All-push AreElements w.messages (given_of act.outcome) kept.messages are;
        count = put-count at (acted act (seat_at w at));
      }

-- ---- what is picked
message-elements : (messages : List (List ElementValue)) (number : ℕ) → All AreElements messages
    → AreElements (get_or messages number [])
message-elements [] number all = All-nil Is
message-elements (message ∷ messages) zero all = All-head AreElements message messages all
message-elements (message ∷ messages) (suc number) all =
    message-elements messages number (All-tail AreElements message messages all)

one-elements : (elements : List ElementValue) (place : ℕ) → AreElements elements
    → AreElements (option_to_list (slice_get elements place))
one-elements [] place are = All-nil Is
one-elements (e ∷ elements) zero are = All-cons Is e [] (All-head Is e elements are) (All-nil Is)
one-elements (e ∷ elements) (suc place) are = one-elements elements place (All-tail Is e elements are)

pick-elements : (messages : List (List ElementValue)) (pick : Pick) → All AreElements messages
    → AreElements (picked messages pick)
pick-elements messages (Whole number) all = message-elements messages number all
pick-elements messages (One number place) all =
    one-elements (get_or messages number []) place (message-elements messages number all)

pub picked-elements : (messages : List (List ElementValue)) (picks : List Pick) → All AreElements messages
    → AreElements (all_picked messages picks)
picked-elements messages [] all = All-nil Is
picked-elements messages (pick ∷ picks) all =
    All-append Is (picked messages pick) (all_picked messages picks) (pick-elements messages pick all)
    (picked-elements messages picks all)

-- ---- what acts come to
command-elements : (o : Result (List ElementValue) Refusal)
    → ((given : List ElementValue) → o ≡ Ok given → AreElements given) → AreElements (given_of (of_command o))
command-elements (Ok given) are = are given refl
command-elements (Err refusal) are = All-nil Is

step-elements : (o : Option (Result Turn (List ℕ))) → ((turn : Turn) → o ≡ Some (Ok turn) → AreElements turn.given)
    → AreElements (given_of (of_step o))
step-elements None are = All-nil Is
step-elements (Some (Err id)) are = All-nil Is
step-elements (Some (Ok turn)) are = are turn refl

module _ (s : State) (kept : IsKept s) (time nonce : ℕ) (early : time ≤ greatest_whole) (small : nonce ≤ greatest_whole)
  where
    change_on-kept : (command : Command) (capture : Capture) → IsWithinLimits command → IsWrittenCommand command
        → IsKept (change_on command capture time nonce s).state
        × AreElements (given_of (change_on command capture time nonce s).outcome)
    unfolding change_on
    change_on-kept command capture limits written = (
      change-kept s kept command capture time nonce limits written early small,
      command-elements (outcome_on command time nonce s)
          (λ given told. (command-given s kept command time nonce given limits written early small told).elements),
    )

    turn_by-kept : (direction : Direction) → IsKept (turn_by direction time nonce s).state
        × AreElements (given_of (turn_by direction time nonce s).outcome)
    unfolding turn_by
    turn_by-kept direction = (
      after-kept s kept time nonce early small direction,
      step-elements (turn_on direction time nonce s)
          (λ turn is. (turn-of s kept time nonce early small direction turn is).elements),
    )

delivered-kept : (list : List ElementValue) (s : Seat) → AreElements list → IsKeptSeat s → IsKeptSeat (delivered list s)
unfolding delivered
delivered-kept list s are kept = record {
  state = delivery-kept s.state kept.state list are;
  taken = All-append Is s.taken (free_elements s.state.held list) kept.taken
      (All-filter (λ (e : ElementValue). not (is_among s.state.held e.id)) Is list are);
}

holding-kept : (ids : List (List ℕ)) (s : Seat) → IsKeptSeat s → IsKeptSeat (holding ids s)
holding-kept ids s kept = record {
  state = record {
    stored_rise = kept.state.stored_rise;
    snapshot_rise = kept.state.snapshot_rise;
    stored_elements = kept.state.stored_elements;
    snapshot_elements = kept.state.snapshot_elements;
    kinds = kept.state.kinds;
    undo_entries = kept.state.undo_entries;
    redo_entries = kept.state.redo_entries;
    undo_ids = kept.state.undo_ids;
    redo_ids = kept.state.redo_ids;
  };
  taken = kept.taken;
}

-- ---- events
module _ (replicas : ℕ) (few : replicas ≤ 64) where
  pub event-kept : (event : Event) (w : World) → IsKeptEvent replicas event → IsKeptWorld replicas w
      → IsKeptWorld replicas (after_event event w)
  event-kept (Change at time capture command) w is kept =
      let small : nonce_at w at ≤ greatest_whole = nonce-small w at (let l = is.among in omega arith) in
      let own = change_on-kept (state_at w at) (seat-kept replicas w kept at is.among).state time (nonce_at w at)
      is.within.0 small command capture is.within.1 is.brings in
      after_act-kept replicas w kept at (change_on command capture time (nonce_at w at) (state_at w at)) is.among own.0
      own.1
  event-kept (Update elements) w is kept = record {
    seats = kept.seats;
    messages = All-push AreElements w.messages elements kept.messages is.brings;
    count = kept.count;
  }
  event-kept (Deliver to picks) w is kept =
      after_seat-kept replicas w kept to (delivered (all_picked w.messages picks) (seat_at w to))
      (delivered-kept (all_picked w.messages picks) (seat_at w to) (picked-elements w.messages picks kept.messages)
      (seat-kept replicas w kept to is.among))
  event-kept (Hold at id) w is kept =
      let ids : List (List ℕ) = with_id id (state_at w at).held in
      after_seat-kept replicas w kept at (holding ids (seat_at w at))
      (holding-kept ids (seat_at w at) (seat-kept replicas w kept at is.among))
  event-kept (Release at id) w is kept =
      let ids : List (List ℕ) = without_id id (state_at w at).held in
      after_seat-kept replicas w kept at (holding ids (seat_at w at))
      (holding-kept ids (seat_at w at) (seat-kept replicas w kept at is.among))
  event-kept (Undo at time) w is kept =
      let small : nonce_at w at ≤ greatest_whole = nonce-small w at (let l = is.among in omega arith) in
      let own = turn_by-kept (state_at w at) (seat-kept replicas w kept at is.among).state time (nonce_at w at)
      is.within small directions.Undo in
      after_act-kept replicas w kept at (turn_by directions.Undo time (nonce_at w at) (state_at w at)) is.among own.0
      own.1
  event-kept (Redo at time) w is kept =
      let small : nonce_at w at ≤ greatest_whole = nonce-small w at (let l = is.among in omega arith) in
      let own = turn_by-kept (state_at w at) (seat-kept replicas w kept at is.among).state time (nonce_at w at)
      is.within small directions.Redo in
      after_act-kept replicas w kept at (turn_by directions.Redo time (nonce_at w at) (state_at w at)) is.among own.0
      own.1

  pub events-kept : (events : List Event) (w : World) → AllByRecursion (IsKeptEvent replicas) events
      → IsKeptWorld replicas w → IsKeptWorld replicas (after_events events w)
  events-kept [] w all kept = kept
  events-kept (event ∷ events) w all kept =
      events-kept events (after_event event w) all.1 (event-kept event w all.0 kept)

-- ---- sessions
all-events : (replicas : ℕ) (events : List Event) → AllByRecursion (IsAmong replicas) events
    → AllByRecursion IsEventWithinLimits events → AllByRecursion BringsElements events
    → AllByRecursion (IsKeptEvent replicas) events
all-events replicas [] places limits brings = tt
all-events replicas (event ∷ events) places limits brings = (
  record { among = places.0; within = limits.0; brings = brings.0 },
  all-events replicas events places.1 limits.1 brings.1,
)

pub session-events : (session : Session) → IsSession session
    → AllByRecursion (IsKeptEvent session.replicas) session.events
session-events session is = all-events session.replicas session.events is.places is.limits is.brings

pub opening-are : (session : Session) → IsSession session → AreElements (opening_elements session)
opening-are session is = by session.scene is.elements
  where
    by : (scene : Option Scene) → IfSome scene (λ (found : Scene). AreElements found.elements)
        → AreElements (option_map_or (λ (found : Scene). found.elements) scene [])
    by None are = All-nil Is
    by (Some scene) are = are

pub opened-kept : (session : Session) → IsSession session → IsKeptWorld session.replicas (opened session)
opened-kept session is = record {
  seats =
      All-replicate IsKeptSeat session.replicas (delivered (opening_elements session) fresh)
      (delivered-kept (opening_elements session) fresh (opening-are session is) kept-fresh);
  messages = All-nil AreElements;
  count = length-replicate session.replicas (delivered (opening_elements session) fresh);
}

-- what holds of a list holds of both of its parts
pub all-parts : {X : Type 0} (P : X → Type 0) (xs ys : List X) → AllByRecursion P (xs ++ ys) → AllByRecursion P xs
    × AllByRecursion P ys
all-parts P [] ys all = (tt, all)
all-parts P (x ∷ xs) ys all = let rest = all-parts P xs ys all.1 in ((all.0, rest.0), rest.1)

module _ (session : Session) (is : IsSession session) (count : ℕ) where
  -- the events before and from one on
  pub cut : AllByRecursion (IsKeptEvent session.replicas) (take count session.events)
      × AllByRecursion (IsKeptEvent session.replicas) (drop count session.events)
  cut =
      all-parts (IsKeptEvent session.replicas) (take count session.events) (drop count session.events)
      (subst (AllByRecursion (IsKeptEvent session.replicas)) (sym (take-append-drop count session.events))
      (session-events session is))

  pub world-kept : IsKeptWorld session.replicas (world_after session count)
  world-kept =
      events-kept session.replicas is.most (take count session.events) (opened session) cut.0 (opened-kept session is)

  pub rest-kept : AllByRecursion (IsKeptEvent session.replicas) (drop count session.events)
  rest-kept = cut.1

  pub states-sound : (s : Seat) → Contains (world_after session count).seats s → IsSoundState s.state
  states-sound s among =
      kept-sound s.state (All-contains IsKeptSeat (world_after session count).seats s world-kept.seats among).state

  pub taken-elements : (s : Seat) → Contains (world_after session count).seats s → AreElements s.taken
  taken-elements s among = (All-contains IsKeptSeat (world_after session count).seats s world-kept.seats among).taken

  pub messages-elements : (message : List ElementValue) → Contains (world_after session count).messages message
      → AreElements message
  messages-elements message among =
      All-contains AreElements (world_after session count).messages message world-kept.messages among
