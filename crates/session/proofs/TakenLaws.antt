-- Every replica stores what it took, and took nothing but what was made.
use Rattle.std.proofs.Common.{◌≡◌, ℕ, zero, suc, not, List, [], ◌∷◌, ◌++◌, take, get_or, set, replicate, option_to_list, slice_get, Contains, refl, sym, ap, ◌∙◌, subst, append_assoc, inl, inr, arith}
use Rattle.std.specs.List.{AllByRecursion}
use Rattle.std.proofs.lemmas.List.Elements.{All-contains, All-from_recursion, Contains-append_left, Contains-append_right, Contains-append_cases}
use Rattle.elem.specs.ElementValue.{ElementValue}
use Rattle.elem.specs.Said.{AreElements}
use Rattle.elem_store.specs.Updates.{AreStored, HaveSameUpdates, stored_of, is_among}
use Rattle.elem_store.proofs.CallerLemmas.{Contains-head, Contains-cons, Contains-cases, filter-Contains, stores-converge}
use Rattle.board_commands.specs.declared.command.Capture.{Capture}
use Rattle.board_commands.specs.declared.command.Command.{Command}
use Rattle.reconcile.specs.Ids.{free_elements}
use Rattle.history.specs.declared.planned.Direction.{Direction}
use Rattle.history.specs.declared.planned.Direction.TheVariants as directions
use Rattle.undo_model.specs.Carrying.{taken_all}
use Rattle.undo_model.proofs.CallerLemmas.{taken_all-stored}
use Rattle.replica.specs.State.{State, outcome_on, turn_on}
use Rattle.session_text.specs.declared.event.Event.{Event}
use Rattle.session_text.specs.declared.event.Event.TheVariants.{Change, Update, Deliver, Hold, Release, Undo, Redo}
use Rattle.session_text.specs.declared.event.Pick.{Pick}
use Rattle.session_text.specs.declared.event.Pick.TheVariants.{All, One}
use Rattle.session_text.specs.declared.session.Session.{Session}
use Rattle.session.specs.Worlds.{Seat, World, Act, fresh, delivered, holding, with_id, without_id, acted, given_of, change_on, turn_by, seat_at, state_at, nonce_at, after_act, after_turn_at, picked, all_picked, after_event, after_events, opened, opening_elements, world_after, all_elements}
use Rattle.session.proofs.SeatLaws.{outcome-stored, turn-stored}
use Rattle.session.proofs.ClashLaws.{flat, flat-more}

-- ---- what holds of each seat
module _ (P : Seat → Type 0) where
  each-set : (seats : List Seat) (i : ℕ) (s : Seat) → P s → AllByRecursion P seats → AllByRecursion P (set seats i s)
  each-set [] i s p all = tt
  each-set (other ∷ seats) zero s p all = (p, all.1)
  each-set (other ∷ seats) (suc i) s p all = (all.0, each-set seats i s p all.1)

  each-at : (seats : List Seat) (i : ℕ) → P fresh → AllByRecursion P seats → P (get_or seats i fresh)
  each-at [] i p all = p
  each-at (s ∷ seats) zero p all = all.0
  each-at (s ∷ seats) (suc i) p all = each-at seats i p all.1

  each-replicated : (count : ℕ) (s : Seat) → P s → AllByRecursion P (replicate count s)
  each-replicated zero s p = tt
  each-replicated (suc count) s p = (p, each-replicated count s p)

  each-weaker : (Q : Seat → Type 0) (seats : List Seat) → ((s : Seat) → P s → Q s) → AllByRecursion P seats
      → AllByRecursion Q seats
  each-weaker Q [] h all = tt
  each-weaker Q (s ∷ seats) h all = (h s all.0, each-weaker Q seats h all.1)

  each-contained : (seats : List Seat) (s : Seat) → AllByRecursion P seats → Contains seats s → P s
  each-contained seats s all among = All-contains P seats s (All-from_recursion P seats all) among

-- ---- what is stored
abbrev pub StoresTaken : Seat → Type 0
StoresTaken s = AreStored s.taken s.state.stored

pub acted-stores : (s : Seat) (act : Act) → act.state.stored ≡ taken_all (given_of act.outcome) s.state.stored
    → StoresTaken s → StoresTaken (acted act s)
acted-stores s act is stores =
    subst (λ es. AreStored (s.taken ++ given_of act.outcome) es) (sym is)
    (taken_all-stored s.taken s.state.stored (given_of act.outcome) stores)

pub delivered-stores : (list : List ElementValue) (s : Seat) → StoresTaken s → StoresTaken (delivered list s)
unfolding delivered
delivered-stores list s stores = taken_all-stored s.taken s.state.stored (free_elements s.state.held list) stores

pub change-stored : (command : Command) (capture : Capture) (time nonce : ℕ) (s : State)
    → (change_on command capture time nonce s).state.stored
    ≡ taken_all (given_of (change_on command capture time nonce s).outcome) s.stored
unfolding change_on
change-stored command capture time nonce s = outcome-stored capture (outcome_on command time nonce s) s

pub turn_by-stored : (direction : Direction) (time nonce : ℕ) (s : State)
    → (turn_by direction time nonce s).state.stored ≡ taken_all (given_of (turn_by direction time nonce s).outcome)
    s.stored
unfolding turn_by
turn_by-stored direction time nonce s = turn-stored direction (turn_on direction time nonce s) s

pub fresh-stores : StoresTaken fresh
unfolding stored_of
fresh-stores = record { ordered = refl; each = λ id. refl }

at-stores : (w : World) (at : ℕ) → AllByRecursion StoresTaken w.seats → StoresTaken (seat_at w at)
at-stores w at all = each-at StoresTaken w.seats at fresh-stores all

act-stores : (at : ℕ) (act : Act) (w : World) → act.state.stored
    ≡ taken_all (given_of act.outcome) (state_at w at).stored → AllByRecursion StoresTaken w.seats
    → AllByRecursion StoresTaken (after_act at act w).seats
act-stores at act w is all = each-set StoresTaken w.seats at (acted act (seat_at w at))
    (acted-stores (seat_at w at) act is (at-stores w at all)) all

turn-stores : (direction : Direction) (at time : ℕ) (w : World) → AllByRecursion StoresTaken w.seats
    → AllByRecursion StoresTaken (after_turn_at direction at time w).seats
turn-stores direction at time w all =
    act-stores at (turn_by direction time (nonce_at w at) (state_at w at)) w
    (turn_by-stored direction time (nonce_at w at) (state_at w at)) all

event-stores : (event : Event) (w : World) → AllByRecursion StoresTaken w.seats
    → AllByRecursion StoresTaken (after_event event w).seats
event-stores (Change at time capture command) w all =
    act-stores at (change_on command capture time (nonce_at w at) (state_at w at)) w
    (change-stored command capture time (nonce_at w at) (state_at w at)) all
event-stores (Update elements) w all = all
event-stores (Deliver to picks) w all =
    each-set StoresTaken w.seats to (delivered (all_picked w.messages picks) (seat_at w to))
    (delivered-stores (all_picked w.messages picks) (seat_at w to) (at-stores w to all)) all
event-stores (Hold at id) w all =
    each-set StoresTaken w.seats at (holding (with_id id (state_at w at).held) (seat_at w at)) (at-stores w at all) all
event-stores (Release at id) w all =
    each-set StoresTaken w.seats at (holding (without_id id (state_at w at).held) (seat_at w at)) (at-stores w at all)
    all
event-stores (Undo at time) w all = turn-stores directions.Undo at time w all
event-stores (Redo at time) w all = turn-stores directions.Redo at time w all

events-store : (events : List Event) (w : World) → AllByRecursion StoresTaken w.seats
    → AllByRecursion StoresTaken (after_events events w).seats
events-store [] w all = all
events-store (event ∷ events) w all = events-store events (after_event event w) (event-stores event w all)

opened-stores : (session : Session) → AllByRecursion StoresTaken (opened session).seats
opened-stores session =
    each-replicated StoresTaken session.replicas (delivered (opening_elements session) fresh)
    (delivered-stores (opening_elements session) fresh fresh-stores)

pub taken-stored : (session : Session) (count : ℕ) (s : Seat) → Contains (world_after session count).seats s
    → AreStored s.taken s.state.stored
taken-stored session count s among =
    each-contained StoresTaken (world_after session count).seats s
    (events-store (take count session.events) (opened session) (opened-stores session)) among

-- ---- what is shown of the same updates
pub same-stored : (session : Session) (count : ℕ) (s other : Seat) → Contains (world_after session count).seats s
    → Contains (world_after session count).seats other
    → AreElements s.taken → HaveSameUpdates s.taken other.taken → s.state.stored ≡ other.state.stored
same-stored session count s other among also are same =
    stores-converge s.taken other.taken s.state.stored other.state.stored same are (taken-stored session count s among)
    (taken-stored session count other also)

-- ---- what was made

module _ (opening : List ElementValue) where
  -- these are among the opening elements and those of the messages
  abbrev AreMade : List (List ElementValue) → List ElementValue → Type 0
  AreMade messages elements = (e : ElementValue) → Contains elements e → Contains (opening ++ flat messages) e

  made-later : (messages : List (List ElementValue)) (message elements : List ElementValue) → AreMade messages elements
      → AreMade (messages ++ message ∷ []) elements
  made-later messages message elements made e among =
      subst (λ es. Contains es e) (append_assoc opening (flat messages) message
      ∙ ap (λ es. opening ++ es) (sym (flat-more messages message)))
      (Contains-append_left (opening ++ flat messages) message e (made e among))

  made-now : (messages : List (List ElementValue)) (message : List ElementValue)
      → AreMade (messages ++ message ∷ []) message
  made-now messages message e among =
      subst (λ es. Contains es e) (append_assoc opening (flat messages) message
      ∙ ap (λ es. opening ++ es) (sym (flat-more messages message)))
      (Contains-append_right (opening ++ flat messages) message e among)

  made-both : (messages : List (List ElementValue)) (elements others : List ElementValue) → AreMade messages elements
      → AreMade messages others → AreMade messages (elements ++ others)
  made-both messages elements others made also e among =
      elim (Contains-append_cases elements others e among) [ inl first ↦ made e first | inr second ↦ also e second ]

  none-made : (messages : List (List ElementValue)) → AreMade messages []
  none-made messages e among = absurd (omega (arith, among.1))

  -- what is in a message, and what is picked
  in-message : (messages : List (List ElementValue)) (number : ℕ) (e : ElementValue)
      → Contains (get_or messages number []) e → Contains (flat messages) e
  in-message [] number e among = absurd (omega (arith, among.1))
  in-message (message ∷ messages) zero e among = Contains-append_left message (flat messages) e among
  in-message (message ∷ messages) (suc number) e among =
      Contains-append_right message (flat messages) e (in-message messages number e among)

  at-place : (elements : List ElementValue) (place : ℕ) (e : ElementValue)
      → Contains (option_to_list (slice_get elements place)) e → Contains elements e
  at-place [] place e among = absurd (omega (arith, among.1))
  at-place (x ∷ elements) zero e among =
      elim (Contains-cases x [] e among) [
        | inl same ↦ subst (Contains (x ∷ elements)) same (Contains-head x elements)
        | inr later ↦ absurd (omega (arith, later.1))
      ]
  at-place (x ∷ elements) (suc place) e among = Contains-cons x elements e (at-place elements place e among)

  picked-made : (messages : List (List ElementValue)) (pick : Pick) (e : ElementValue)
      → Contains (picked messages pick) e → Contains (flat messages) e
  picked-made messages (All number) e among = in-message messages number e among
  picked-made messages (One number place) e among =
      in-message messages number e (at-place (get_or messages number []) place e among)

  all-picked-made : (messages : List (List ElementValue)) (picks : List Pick)
      → AreMade messages (all_picked messages picks)
  all-picked-made messages [] e among = absurd (omega (arith, among.1))
  all-picked-made messages (pick ∷ picks) e among =
      elim (Contains-append_cases (picked messages pick) (all_picked messages picks) e among) [
        | inl first ↦ Contains-append_right opening (flat messages) e (picked-made messages pick e first)
        | inr second ↦ all-picked-made messages picks e second
      ]

  free-made : (messages : List (List ElementValue)) (held : List (List ℕ)) (list : List ElementValue)
      → AreMade messages list → AreMade messages (free_elements held list)
  free-made messages held list made e among =
      made e (filter-Contains (λ (x : ElementValue). not (is_among held x.id)) list e among).0

  -- ---- of each seat
  abbrev TookMade : List (List ElementValue) → Seat → Type 0
  TookMade messages s = AreMade messages s.taken

  act-made : (at : ℕ) (act : Act) (w : World) → AllByRecursion (TookMade w.messages) w.seats
      → AllByRecursion (TookMade (after_act at act w).messages) (after_act at act w).seats
  act-made at act w all =
      let given : List ElementValue = given_of act.outcome in
      let new : List (List ElementValue) = w.messages ++ given ∷ [] in
      let later : AllByRecursion (TookMade new) w.seats =
      each-weaker (TookMade w.messages) (TookMade new) w.seats (λ s. made-later w.messages given s.taken) all in
      each-set (TookMade new) w.seats at (acted act (seat_at w at))
      (made-both new (seat_at w at).taken given (each-at (TookMade new) w.seats at (none-made new) later)
      (made-now w.messages given)) later

  delivered-made : (messages : List (List ElementValue)) (list : List ElementValue) (s : Seat) → AreMade messages list
      → TookMade messages s → TookMade messages (delivered list s)
  unfolding delivered
  delivered-made messages list s made took =
      made-both messages s.taken (free_elements s.state.held list) took (free-made messages s.state.held list made)

  at-made : (w : World) (at : ℕ) → AllByRecursion (TookMade w.messages) w.seats → TookMade w.messages (seat_at w at)
  at-made w at all = each-at (TookMade w.messages) w.seats at (none-made w.messages) all

  event-made : (event : Event) (w : World) → AllByRecursion (TookMade w.messages) w.seats
      → AllByRecursion (TookMade (after_event event w).messages) (after_event event w).seats
  event-made (Change at time capture command) w all =
      act-made at (change_on command capture time (nonce_at w at) (state_at w at)) w all
  event-made (Update elements) w all = each-weaker (TookMade w.messages) (TookMade (w.messages ++ elements ∷ []))
      w.seats (λ s. made-later w.messages elements s.taken) all
  event-made (Deliver to picks) w all =
      let list : List ElementValue = all_picked w.messages picks in
      each-set (TookMade w.messages) w.seats to (delivered list (seat_at w to))
      (delivered-made w.messages list (seat_at w to) (all-picked-made w.messages picks) (at-made w to all)) all
  event-made (Hold at id) w all = each-set (TookMade w.messages) w.seats at
      (holding (with_id id (state_at w at).held) (seat_at w at)) (at-made w at all) all
  event-made (Release at id) w all = each-set (TookMade w.messages) w.seats at
      (holding (without_id id (state_at w at).held) (seat_at w at)) (at-made w at all) all
  event-made (Undo at time) w all = act-made at (turn_by directions.Undo time (nonce_at w at) (state_at w at)) w all
  event-made (Redo at time) w all = act-made at (turn_by directions.Redo time (nonce_at w at) (state_at w at)) w all

  events-made : (events : List Event) (w : World) → AllByRecursion (TookMade w.messages) w.seats
      → AllByRecursion (TookMade (after_events events w).messages) (after_events events w).seats
  events-made [] w all = all
  events-made (event ∷ events) w all = events-made events (after_event event w) (event-made event w all)

opened-made : (session : Session) → AllByRecursion (TookMade (opening_elements session) []) (opened session).seats
opened-made session =
    each-replicated (TookMade (opening_elements session) []) session.replicas
    (delivered (opening_elements session) fresh)
    (delivered-made (opening_elements session) [] (opening_elements session) fresh
    (λ e among. Contains-append_left (opening_elements session) [] e among)
    (none-made (opening_elements session) []))

pub taken-made : (session : Session) (count : ℕ) (s : Seat) (e : ElementValue)
    → Contains (world_after session count).seats s → Contains s.taken e
    → Contains (all_elements session (world_after session count)) e
taken-made session count s e among among' =
    let w : World = world_after session count in
    each-contained (TookMade (opening_elements session) w.messages) w.seats s
    (events-made (opening_elements session) (take count session.events) (opened session) (opened-made session)) among e
    among'
