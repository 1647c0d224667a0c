-- Nothing is pending at a replica at which no change was captured later.
use Rattle.std.proofs.Common.{◌≡◌, ◌≤◌, ◌<◌, ◌==◌, ℕ, zero, suc, not, List, [], ◌∷◌, take, get_or, set, replicate, map, Option, Some, None, Result, Ok, Err, inl, inr, refl, sym, ap, subst, arith}
use Rattle.std.specs.List.{AllByRecursion}
use Rattle.std.proofs.lemmas.Bool.{cases_Bool, eqb-true, eqb-false}
use Rattle.std.proofs.lemmas.List.Elements.{All-filter}
use Rattle.elem.specs.ElementValue.{ElementValue}
use Rattle.elem.specs.Facts.{IsElement, greatest_whole}
use Rattle.elem.specs.Order.{unstamped}
use Rattle.elem.specs.Said.{HasValidTexts, AreElements}
use Rattle.elem_store.specs.Updates.{is_among}
use Rattle.reconcile.specs.Ids.{free_elements}
use Rattle.board_commands.specs.declared.command.Capture.{Capture}
use Rattle.board_commands.specs.declared.command.Capture.TheVariants.{Now, Later, Never}
use Rattle.board_commands.specs.declared.command.Command.{Command}
use Rattle.effects.specs.declared.refusal.Refusal.{Refusal}
use Rattle.undo_model.specs.Differing.{pending}
use Rattle.undo_model.specs.Steps.{Turn}
use Rattle.history.specs.declared.planned.Direction.{Direction}
use Rattle.history.specs.declared.planned.Direction.TheVariants as directions
use Rattle.replica.specs.Back.{HasNothingPending, IsCaptured}
use Rattle.replica.specs.State.{State, captured, stored_with, outcome_on, after_outcome, after_delivery, turn_on, after_turn_of}
use Rattle.session_text.specs.Facts.{IsSession}
use Rattle.session_text.specs.declared.event.Event.{Event}
use Rattle.session_text.specs.declared.event.Event.TheVariants.{Change, Update, Deliver, Hold, Release, Undo, Redo}
use Rattle.session_text.specs.declared.session.Session.{Session}
use Rattle.session.specs.Worlds.{Seat, World, fresh, delivered, holding, with_id, without_id, change_on, turn_by, acted, seat_at, state_at, nonce_at, all_picked, after_event, after_events, opening_elements, opened, world_after}
use Rattle.session_laws.specs.Turning.{IsLaterAt}
use Rattle.session_laws.proofs.SoundStates.{IsKept, kept-nothing, command-given}
use Rattle.session_laws.proofs.SoundWorlds.{IsKeptWorld, IsKeptEvent, seat-kept, nonce-small, picked-elements, event-kept, opening-are, opened-kept, world-kept, cut}
use Rattle.session_laws.proofs.AtReplica.{own-put, other-put}
use Rattle.replica.proofs.CallerLemmas.{captured-none, noted-stored}
use Rattle.session_laws.proofs.Follows.{carried-captured}

-- ---- a state

captured-still : (s : State) → IsCaptured (captured s)
captured-still s = ap (map unstamped) (sym (noted-stored (pending s.snapshot s.stored) s))

turn-still : (direction : Direction) (found : Option (Result Turn (List ℕ))) (s : State) → IsCaptured s
    → IsCaptured (after_turn_of direction found s)
turn-still direction None s still = captured-still s
turn-still direction (Some (Err id)) s still = still
turn-still direction (Some (Ok turn)) s still = refl

outcome-still : (capture : Capture) (o : Result (List ElementValue) Refusal) (s : State) → IsKept s
    → ((given : List ElementValue) → o ≡ Ok given → AreElements given) → (capture ≡ Later → ⊥) → IsCaptured s
    → IsCaptured (after_outcome capture o s)
outcome-still Now (Ok given) s kept are soon still = captured-still (stored_with given s)
outcome-still Later (Ok given) s kept are soon still = absurd (soon refl)
outcome-still Never (Ok given) s kept are soon still = carried-captured s given kept (are given refl) still
outcome-still capture (Err refusal) s kept are soon still = still

delivery-still : (list : List ElementValue) (s : State) → IsKept s → AreElements list → IsCaptured s
    → IsCaptured (after_delivery list s)
delivery-still list s kept are still =
    carried-captured s (free_elements s.held list) kept (All-filter (λ (e : ElementValue). not (is_among s.held e.id))
    (λ e. IsElement e × HasValidTexts e) list are) still

turn_by-still : (direction : Direction) (time nonce : ℕ) (s : State) → IsCaptured s
    → IsCaptured (turn_by direction time nonce s).state
unfolding turn_by
turn_by-still direction time nonce s still = turn-still direction (turn_on direction time nonce s) s still

delivered-still : (list : List ElementValue) (s : Seat) → IsKept s.state → AreElements list → IsCaptured s.state
    → IsCaptured (delivered list s).state
unfolding delivered
delivered-still list s kept are still = delivery-still list s.state kept are still

change_on-still : (command : Command) (capture : Capture) (time nonce : ℕ) (s : State) → IsKept s
    → ((given : List ElementValue) → outcome_on command time nonce s ≡ Ok given → AreElements given)
    → (capture ≡ Later → ⊥) → IsCaptured s
    → IsCaptured (change_on command capture time nonce s).state
unfolding change_on
change_on-still command capture time nonce s kept are soon still =
    outcome-still capture (outcome_on command time nonce s) s kept are soon still

-- ---- one event
module _ (replicas : ℕ) (few : replicas ≤ 64) (at : ℕ) (among : at < replicas) where
  module _ (w : World) (kept : IsKeptWorld replicas w) (still : IsCaptured (state_at w at)) where
    -- what is put at any replica leaves nothing pending here if it does where it is put here
    put-still : (other : ℕ) (s : Seat) → (other ≡ at → IsCaptured s.state)
        → IsCaptured (get_or (set w.seats other s) at fresh).state
    put-still other s here = elim (cases_Bool (other == at)) [
      | inl t ↦
          let same = eqb-true other at t in
          subst (λ (i : ℕ). IsCaptured (get_or (set w.seats i s) at fresh).state) (sym same)
          (subst (λ (seat : Seat). IsCaptured seat.state) (sym (own-put replicas few at among w kept s)) (here same))
      | inr f ↦ subst (λ (seat : Seat). IsCaptured seat.state)
          (sym (other-put replicas few at among w kept other s (eqb-false other at f))) still
    ]

    still-at : (other : ℕ) → other ≡ at → IsCaptured (state_at w other)
    still-at other same = subst (λ (i : ℕ). IsCaptured (state_at w i)) (sym same) still

    event-still : (event : Event) → IsKeptEvent replicas event → (IsLaterAt at event → ⊥)
        → IsCaptured (state_at (after_event event w) at)
    event-still (Change other time capture command) is soon =
        let s : State = state_at w other in
        let nonce : ℕ = nonce_at w other in
        let small : nonce ≤ greatest_whole = nonce-small w other (let l = is.among in omega arith) in
        let own = (seat-kept replicas w kept other is.among).state in
        put-still other (acted (change_on command capture time nonce s) (seat_at w other)) (λ same.
        change_on-still command capture time nonce s own
        (λ given told. (command-given s own command time nonce given is.within.1 is.brings is.within.0 small
        told).elements)
        (λ later. soon (time, command, λ i. Change (same i) time (later i) command)) (still-at other same))
    event-still (Update elements) is soon = still
    event-still (Deliver to picks) is soon =
        put-still to (delivered (all_picked w.messages picks) (seat_at w to)) (λ same.
        delivered-still (all_picked w.messages picks) (seat_at w to) (seat-kept replicas w kept to is.among).state
        (picked-elements w.messages picks kept.messages) (still-at to same))
    event-still (Hold other id) is soon =
        put-still other (holding (with_id id (state_at w other).held) (seat_at w other)) (λ same. still-at other same)
    event-still (Release other id) is soon =
        put-still other (holding (without_id id (state_at w other).held) (seat_at w other))
        (λ same. still-at other same)
    event-still (Undo other time) is soon =
        put-still other (acted (turn_by directions.Undo time (nonce_at w other) (state_at w other)) (seat_at w other))
        (λ same. turn_by-still directions.Undo time (nonce_at w other) (state_at w other) (still-at other same))
    event-still (Redo other time) is soon =
        put-still other (acted (turn_by directions.Redo time (nonce_at w other) (state_at w other)) (seat_at w other))
        (λ same. turn_by-still directions.Redo time (nonce_at w other) (state_at w other) (still-at other same))

  events-still : (events : List Event) (w : World) → IsKeptWorld replicas w
      → AllByRecursion (IsKeptEvent replicas) events → AllByRecursion (λ (event : Event). IsLaterAt at event → ⊥) events
      → IsCaptured (state_at w at) → IsCaptured (state_at (after_events events w) at)
  events-still [] w kept all soon still = still
  events-still (event ∷ events) w kept all soon still =
      events-still events (after_event event w) (event-kept replicas few event w all.0 kept) all.1 soon.1
      (event-still w kept still event all.0 soon.0)

-- ---- a session
replicated-at : (count : ℕ) (s : Seat) (at : ℕ) → at < count → get_or (replicate count s) at fresh ≡ s
replicated-at zero s at l = absurd (omega arith)
replicated-at (suc count) s zero l = refl
replicated-at (suc count) s (suc at) l = replicated-at count s at (omega arith)

module _ (session : Session) (is : IsSession session) (at : ℕ) (among : at < session.replicas) where
  opened-still : IsCaptured (state_at (opened session) at)
  opened-still =
      let s : Seat = delivered (opening_elements session) fresh in
      subst (λ (seat : Seat). IsCaptured seat.state) (sym (replicated-at session.replicas s at among))
      (delivered-still (opening_elements session) fresh kept-nothing (opening-are session is) refl)

  pub all-captured : (count : ℕ) → AllByRecursion (λ (event : Event). IsLaterAt at event
      → ⊥) (take count session.events) → IsCaptured (state_at (world_after session count) at)
  all-captured count soon =
      events-still session.replicas is.most at among (take count session.events) (opened session)
      (opened-kept session is) (cut session is count).0 soon opened-still

  pub nothing-pending : (count : ℕ) → AllByRecursion (λ (event : Event). IsLaterAt at event
      → ⊥) (take count session.events) → HasNothingPending (state_at (world_after session count) at)
  nothing-pending count soon =
      captured-none (state_at (world_after session count) at)
      (seat-kept session.replicas (world_after session count) (world-kept session is count) at
      among).state.stored_rise
      (all-captured count soon)
