-- Where nothing is held off and each replica is told of every message in the end, each took all that there was.
use Rattle.std.proofs.Common.{◌≡◌, ℕ, zero, suc, ◌+◌, ◌<◌, List, [], ◌∷◌, ◌++◌, length, get_or, Contains, inl, inr, refl, sym, ap, ◌∙◌, subst, length-append, arith}
use Rattle.std.specs.List.{AllByRecursion}
use Rattle.std.proofs.lemmas.List.Elements.{Contains-append_left, Contains-append_right, Contains-append_cases}
use Rattle.elem.specs.ElementValue.{ElementValue}
use Rattle.elem_store.specs.Updates.{HaveSameUpdates}
use Rattle.elem_store.proofs.CallerLemmas.{Contains-cases}
use Rattle.history.specs.declared.planned.Direction.TheVariants as directions
use Rattle.session_text.specs.Sessions.{messages_of, made_after}
use Rattle.session_text.specs.declared.event.Event.{Event}
use Rattle.session_text.specs.declared.event.Event.TheVariants.{Change, Update, Deliver, Hold, Release, Undo, Redo}
use Rattle.session_text.specs.declared.event.Pick.{Pick}
use Rattle.session_text.specs.declared.event.Pick.TheVariants.{All}
use Rattle.session_text.specs.declared.session.Session.{Session}
use Rattle.session.specs.Worlds.{Seat, World, Act, fresh, delivered, holding, without_id, acted, change_on, turn_by, seat_at, state_at, nonce_at, picked, all_picked, after_act, after_event, after_events, opened, opening_elements, all_elements, last_world}
use Rattle.session.proofs.CallerLemmas.{flat, change-held, turn_by-held, taken-made, events-append, world-last}
use Rattle.session_laws.specs.Told.{IsNoHold, HasNoHolds, IsDelivery, IsToldAll}
use Rattle.session_laws.proofs.Seats.{at-set, at-replicated, numbered, events-keep, events-seats, opened-seats, opened-takes, delivered-takes, put-there}

-- ---- no replica holds an id
abbrev HoldNothing : World → Type 0
HoldNothing w = (at : ℕ) → (state_at w at).held ≡ []

delivered-held : (list : List ElementValue) (s : Seat) → (delivered list s).state.held ≡ s.state.held
unfolding delivered
delivered-held list s = refl

act-holds_none : (at : ℕ) (act : Act) (w : World) → act.state.held ≡ (state_at w at).held → HoldNothing w
    → HoldNothing (after_act at act w)
act-holds_none at act w same none =
    at-set (λ (i : ℕ) (t : Seat). t.state.held ≡ []) w.seats at (acted act (seat_at w at)) (same ∙ none at) none

event-holds_none : (event : Event) (w : World) → IsNoHold event → HoldNothing w → HoldNothing (after_event event w)
event-holds_none (Change at time capture command) w h none =
    act-holds_none at (change_on command capture time (nonce_at w at) (state_at w at)) w
    (change-held command capture time (nonce_at w at) (state_at w at)) none
event-holds_none (Update elements) w h none = none
event-holds_none (Deliver to picks) w h none =
    at-set (λ (i : ℕ) (t : Seat). t.state.held ≡ []) w.seats to (delivered (all_picked w.messages picks) (seat_at w to))
    (delivered-held (all_picked w.messages picks) (seat_at w to) ∙ none to) none
event-holds_none (Hold at id) w h none = absurd h
event-holds_none (Release at id) w h none =
    at-set (λ (i : ℕ) (t : Seat). t.state.held ≡ []) w.seats at
    (holding (without_id id (state_at w at).held) (seat_at w at))
    (ap (without_id id) (none at)) none
event-holds_none (Undo at time) w h none =
    act-holds_none at (turn_by directions.Undo time (nonce_at w at) (state_at w at)) w
    (turn_by-held directions.Undo time (nonce_at w at) (state_at w at)) none
event-holds_none (Redo at time) w h none =
    act-holds_none at (turn_by directions.Redo time (nonce_at w at) (state_at w at)) w
    (turn_by-held directions.Redo time (nonce_at w at) (state_at w at)) none

events-hold_none : (events : List Event) (w : World) → AllByRecursion IsNoHold events → HoldNothing w
    → HoldNothing (after_events events w)
events-hold_none [] w all none = none
events-hold_none (event ∷ events) w all none =
    events-hold_none events (after_event event w) all.1 (event-holds_none event w all.0 none)

opened-holds_none : (session : Session) → HoldNothing (opened session)
opened-holds_none session =
    at-replicated (λ (t : Seat). t.state.held ≡ []) session.replicas (delivered (opening_elements session) fresh)
    (delivered-held (opening_elements session) fresh) refl

-- ---- how many messages there are
event-made : (event : Event) (w : World) → length (after_event event w).messages ≡ length w.messages + messages_of event
event-made (Change at time capture command) w = length-append w.messages (_ ∷ [])
event-made (Update elements) w = length-append w.messages (elements ∷ [])
event-made (Deliver to picks) w = omega arith
event-made (Hold at id) w = omega arith
event-made (Release at id) w = omega arith
event-made (Undo at time) w = length-append w.messages (_ ∷ [])
event-made (Redo at time) w = length-append w.messages (_ ∷ [])

events-made : (events : List Event) (w : World) (made : ℕ) → length w.messages ≡ made
    → length (after_events events w).messages ≡ made_after made events
events-made [] w made is = is
events-made (event ∷ events) w made is =
    events-made events (after_event event w) (made + messages_of event) (event-made event w
    ∙ ap (λ n. n + messages_of event) is)

-- ---- what is in messages, and what is picked
in-message : (messages : List (List ElementValue)) (e : ElementValue) → Contains (flat messages) e → (message : ℕ)
    × (message < length messages) × Contains (get_or messages message []) e
in-message [] e c = absurd (omega (arith, c.1))
in-message (message ∷ messages) e c = elim (Contains-append_cases message (flat messages) e c) [
  | inl here ↦ (zero, omega arith, here)
  | inr later ↦ let there = in-message messages e later in (suc there.0, omega (arith, there.1), there.2)
]

in-picked : (messages : List (List ElementValue)) (picks : List Pick) (message : ℕ) (e : ElementValue)
    → Contains picks (All message) → Contains (get_or messages message []) e → Contains (all_picked messages picks) e
in-picked messages [] message e among c = absurd (omega (arith, among.1))
in-picked messages (pick ∷ picks) message e among c = elim (Contains-cases pick picks (All message) among) [
  | inl same ↦
      Contains-append_left (picked messages pick) (all_picked messages picks) e
      (subst (λ (p : Pick). Contains (picked messages p) e) (sym same) c)
  | inr later ↦ Contains-append_right (picked messages pick) (all_picked messages picks) e
      (in-picked messages picks message e later c)
]

-- ---- deliveries
delivery-messages : (event : Event) (w : World) → IsDelivery event → (after_event event w).messages ≡ w.messages
delivery-messages (Change at time capture command) w h = absurd h
delivery-messages (Update elements) w h = absurd h
delivery-messages (Deliver to picks) w h = refl
delivery-messages (Hold at id) w h = absurd h
delivery-messages (Release at id) w h = absurd h
delivery-messages (Undo at time) w h = absurd h
delivery-messages (Redo at time) w h = absurd h

delivery-free : (event : Event) → IsDelivery event → IsNoHold event
delivery-free (Change at time capture command) h = tt
delivery-free (Update elements) h = tt
delivery-free (Deliver to picks) h = tt
delivery-free (Hold at id) h = absurd h
delivery-free (Release at id) h = tt
delivery-free (Undo at time) h = tt
delivery-free (Redo at time) h = tt

deliveries-messages : (events : List Event) (w : World) → AllByRecursion IsDelivery events
    → (after_events events w).messages ≡ w.messages
deliveries-messages [] w all = refl
deliveries-messages (event ∷ events) w all =
    deliveries-messages events (after_event event w) all.1 ∙ delivery-messages event w all.0

module _ (at : ℕ) (picks : List Pick) (message : ℕ) (e : ElementValue) (whole : Contains picks (All message)) where
  delivery-tells : (w : World) → HoldNothing w → at < length w.seats → Contains (get_or w.messages message []) e
      → Contains (seat_at (after_event (Deliver at picks) w) at).taken e
  delivery-tells w none l c =
      let seat : Seat = delivered (all_picked w.messages picks) (seat_at w at) in
      subst (λ (t : Seat). Contains t.taken e) (sym (put-there w.seats at seat l))
      (delivered-takes (all_picked w.messages picks) (seat_at w at) (none at) e
      (in-picked w.messages picks message e whole c))

  -- once a message was delivered its elements are taken
  deliveries-tell : (events : List Event) (w : World) → AllByRecursion IsDelivery events → HoldNothing w
      → at < length w.seats → Contains events (Deliver at picks) → Contains (get_or w.messages message []) e
      → Contains (seat_at (after_events events w) at).taken e
  deliveries-tell [] w all none l among c = absurd (omega (arith, among.1))
  deliveries-tell (event ∷ events) w all none l among c = elim (Contains-cases event events (Deliver at picks) among) [
    | inl same ↦
        events-keep events (after_event event w) at e
        (subst (λ (x : Event). Contains (seat_at (after_event x w) at).taken e) (sym same) (delivery-tells w none l c))
    | inr later ↦
        let seats = events-seats (event ∷ []) w in
        deliveries-tell events (after_event event w) all.1 (event-holds_none event w (delivery-free event all.0) none)
        (omega (arith, seats)) later
        (subst (λ (ms : List (List ElementValue)). Contains (get_or ms message []) e)
        (sym (delivery-messages event w all.0)) c)
  ]

-- ---- all is taken
front : (P : Event → Type 0) (first last : List Event) → AllByRecursion P (first ++ last) → AllByRecursion P first
front P [] last all = tt
front P (event ∷ first) last all = (all.0, front P first last all.1)

module _ (session : Session) (free : HasNoHolds session) (told : IsToldAll session) where
  -- the world before the last deliveries
  abbrev before : World
  before = after_events told.first (opened session)

  last-is : last_world session ≡ after_events told.last before
  last-is =
      ap (λ es. after_events es (opened session)) told.events ∙ events-append told.first told.last (opened session)

  before-holds_none : HoldNothing before
  before-holds_none =
      events-hold_none told.first (opened session)
      (front IsNoHold told.first told.last (subst (AllByRecursion IsNoHold) told.events free))
      (opened-holds_none session)

  before-seats : length before.seats ≡ session.replicas
  before-seats = events-seats told.first (opened session) ∙ opened-seats session

  before-made : length before.messages ≡ made_after 0 told.first
  before-made = events-made told.first (opened session) 0 refl

  message-taken : (at : ℕ) → at < session.replicas → (e : ElementValue)
      → Contains (flat (after_events told.last before).messages) e
      → Contains (seat_at (after_events told.last before) at).taken e
  message-taken at l e c =
      let there = in-message before.messages e
      (subst (λ ms. Contains (flat ms) e) (deliveries-messages told.last before told.deliveries) c) in
      let own = told.told at there.0 l (omega (arith, there.1, before-made)) in
      deliveries-tell at own.picks there.0 e own.whole told.last before told.deliveries before-holds_none
      (omega (arith, l, before-seats)) own.delivery there.2

  all-taken : (at : ℕ) → at < session.replicas → (e : ElementValue)
      → Contains (all_elements session (last_world session)) e → Contains (seat_at (last_world session) at).taken e
  all-taken at l e c =
      elim (Contains-append_cases (opening_elements session) (flat (last_world session).messages) e c) [
        | inl opening ↦ events-keep session.events (opened session) at e (opened-takes session at l e opening)
        | inr later ↦
            subst (λ (w : World). Contains (flat w.messages) e → Contains (seat_at w at).taken e) (sym last-is)
            (message-taken at l e) later
      ]

  pub told-all : (s : Seat) → Contains (last_world session).seats s
      → HaveSameUpdates s.taken (all_elements session (last_world session))
  told-all s among = record {
    in_others = λ e c.
        subst (λ (w : World). Contains w.seats s → Contains (all_elements session w) e)
        (world-last session (length session.events) (omega arith))
        (λ d. taken-made session (length session.events) s e d c) among;
    in_updates = λ e c.
        let at = numbered (last_world session).seats s among in
        let seats = events-seats session.events (opened session) ∙ opened-seats session in
        subst (λ (t : Seat). Contains t.taken e) at.2 (all-taken at.0 (omega (arith, at.1, seats)) e c);
  }

  pub told-same : (s other : Seat) → Contains (last_world session).seats s → Contains (last_world session).seats other
      → HaveSameUpdates s.taken other.taken
  told-same s other among also =
      let own = told-all s among in
      let others = told-all other also in
      record {
        in_others = λ e c. others.in_updates e (own.in_others e c);
        in_updates = λ e c. own.in_updates e (others.in_others e c);
      }
