-- What events do to one replica, whose held ids play no part in it.
use Rattle.std.proofs.Common.{◌≡◌, ◌≢◌, ◌≤◌, ◌<◌, ◌==◌, ℕ, zero, suc, true, List, [], ◌∷◌, length, get_or, set, Option, Some, None, Result, Ok, Err, IsSomeAnd, Contains, inl, inr, refl, sym, ap, ◌∙◌, subst, arith}
use Rattle.std.specs.List.{AllByRecursion}
use Rattle.std.proofs.lemmas.Bool.{cases_Bool, eqb-true, eqb-false, not-true}
use Rattle.std.proofs.lemmas.List.{get_or-set_same, get_or-set_other}
use Rattle.elem.specs.ElementValue.{ElementValue}
use Rattle.elem.specs.Facts.{greatest_whole}
use Rattle.elem.specs.Order.{unstamped}
use Rattle.elem_store.specs.Updates.{element_of}
use Rattle.delta.specs.Pairs.{Pair}
use Rattle.view.specs.Shown.{is_live, live_elements, shown}
use Rattle.board_commands.specs.declared.command.Capture.TheVariants.{Now}
use Rattle.board_commands.specs.declared.command.Command.{Command}
use Rattle.effects.specs.declared.refusal.Refusal.{Refusal}
use Rattle.board_commands.specs.Limits.{IsWithinLimits}
use Rattle.effects.proofs.CallerLemmas.{given-seen}
use Rattle.history.specs.Stacks.{chosen, other}
use Rattle.history.specs.declared.planned.Direction.{Direction}
use Rattle.history.specs.declared.planned.Direction.TheVariants as directions
use Rattle.undo_model.specs.Carrying.{taken_all}
use Rattle.undo_model.specs.Differing.{pending}
use Rattle.undo_model.specs.Steps.{Turn, step}
use Rattle.replica.specs.Back.{Alters, IsStoredChange, changed, changed_all, AreChanges, AreTurns, Call, IsDone, turned_all}
use Rattle.replica.specs.State.{State, noted, stored_with, outcome_on, after_outcome, after_delivery, entries, turn_on, after_turn_of, after_turn}
use Rattle.replica.proofs.CallerLemmas.{empty-stays}
use Rattle.session_text.specs.declared.event.Event.{Event}
use Rattle.session_text.specs.declared.event.Event.TheVariants.{Change, Update, Deliver, Hold, Release, Undo, Redo}
use Rattle.session.specs.Worlds.{Seat, World, Act, fresh, delivered, holding, with_id, without_id, of_command, change_on, turn_by, given_of, acted, seat_at, state_at, nonce_at, after_act, after_turn_at, all_picked, after_event, after_events}
use Rattle.board_commands.specs.Written.{IsWrittenCommand}
use Rattle.session_laws.specs.Turning.{KeepsAway, AreAmong, IsChangeAt, IsTurnAt, AreChangesAt}
use Rattle.session_laws.proofs.SoundStates.{IsKept, AreGiven, command-given}
use Rattle.session_laws.proofs.SoundWorlds.{IsKeptWorld, IsKeptEvent, seat-kept, nonce-small, event-kept}

-- ---- held ids play no part in what is captured, undone and redone
-- a state without its held ids
abbrev pub unheld : State → State
unheld s = record s { held = [] }

unheld-noted : (entry : List Pair) (s : State) (snapshot : List ElementValue)
    → unheld (record (noted entry s) { snapshot = snapshot }) ≡ record (noted entry (unheld s)) { snapshot = snapshot }
unheld-noted [] s snapshot = refl
unheld-noted (pair ∷ entry) s snapshot = refl

unheld-changed : (given : List ElementValue) (s : State) → unheld (changed given s) ≡ changed given (unheld s)
unheld-changed given s =
    unheld-noted (pending s.snapshot (taken_all given s.stored)) (stored_with given s) (taken_all given s.stored)

noted-entries : (direction : Direction) (entry : List Pair) (s : State)
    → entries direction (noted entry (unheld s)) ≡ entries direction (noted entry s)
noted-entries direction [] s = refl
noted-entries direction (pair ∷ entry) s = refl

pub unheld-turn_on : (direction : Direction) (time nonce : ℕ) (s : State)
    → turn_on direction time nonce (unheld s) ≡ turn_on direction time nonce s
unheld-turn_on direction time nonce s =
    λ i. step s.stored time nonce (noted-entries direction (pending s.snapshot s.stored) s i)
    (noted-entries (other direction) (pending s.snapshot s.stored) s i)

unheld-turned : (direction : Direction) (time nonce : ℕ) (s : State) (turn : Turn)
    → turn_on direction time nonce s ≡ Some (Ok turn) → unheld (after_turn direction time nonce s)
    ≡ after_turn direction time nonce (unheld s)
unheld-turned direction time nonce s turn found =
    ap (λ o. unheld (after_turn_of direction o s)) found
    ∙ sym (ap (λ o. after_turn_of direction o (unheld s)) (unheld-turn_on direction time nonce s ∙ found))

-- ---- what a command gives is a change of what is stored

module _ (s : State) (kept : IsKept s) (command : Command) (time nonce : ℕ)
    (limits : IsWithinLimits command) (written : IsWrittenCommand command) (early : time ≤ greatest_whole)
    (small : nonce ≤ greatest_whole) where
  module _ (given : List ElementValue) (told : outcome_on command time nonce s ≡ Ok given) where
    are-given : AreGiven s.stored given
    are-given = command-given s kept command time nonce given limits written early small told

    seen-alters : (e : ElementValue) (o : Option ElementValue) → Contains given e → element_of s.stored e.id ≡ o
        → IsSomeAnd o (λ (old : ElementValue). (is_live old ≡ true) × (unstamped old ≢ unstamped e)) → Alters o e
    seen-alters e None c found seen = absurd seen
    seen-alters e (Some old) c found seen = (not-true old.deleted seen.0, are-given.kinds e old c found, seen.1)

    given-alters : (e : ElementValue) → Contains given e → Alters (element_of s.stored e.id) e
    given-alters e c =
        elim (given-seen s.stored (shown (live_elements s.stored)) command time nonce given told kept.stored_rise e c) [
          | inl change ↦ seen-alters e (element_of s.stored e.id) c refl change
          | inr new ↦ subst (λ o. Alters o e) (sym new.unknown) (not-true e.deleted new.live)
        ]

    pub given-changes : given ≢ [] → IsStoredChange s.stored given
    given-changes some = record {
      some = some;
      ordered = are-given.rise;
      elements = are-given.elements;
      taken = are-given.taken;
      alters = given-alters;
    }

  -- a change that is captured at once and gives some elements
  pub change-done : given_of (change_on command Now time nonce s).outcome ≢ [] → (given : List ElementValue)
      × ((change_on command Now time nonce s).state ≡ changed given s) × IsStoredChange s.stored given
  unfolding change_on
  change-done gives = by (outcome_on command time nonce s) refl gives
    where
      by : (o : Result (List ElementValue) Refusal) → outcome_on command time nonce s ≡ o → given_of (of_command o) ≢ []
          → (given : List ElementValue) × (after_outcome Now o s ≡ changed given s) × IsStoredChange s.stored given
      by (Ok given) told some = (given, refl, given-changes given told some)
      by (Err refusal) told some = absurd (some refl)

turn_by-state : (direction : Direction) (time nonce : ℕ) (s : State)
    → (turn_by direction time nonce s).state ≡ after_turn direction time nonce s
unfolding turn_by
turn_by-state direction time nonce s = refl

-- what a turn is as an event
turn-within : (direction : Direction) (replicas at time : ℕ)
    → IsKeptEvent replicas (chosen direction (Undo at time) (Redo at time)) → time ≤ greatest_whole
turn-within directions.Undo replicas at time is = is.within
turn-within directions.Redo replicas at time is = is.within

turn-after : (direction : Direction) (at time : ℕ) (w : World)
    → after_event (chosen direction (Undo at time) (Redo at time)) w ≡ after_turn_at direction at time w
turn-after directions.Undo at time w = refl
turn-after directions.Redo at time w = refl

delivered-state : (list : List ElementValue) (s : Seat) → (delivered list s).state ≡ after_delivery list s.state
unfolding delivered
delivered-state list s = refl

-- ---- one event
module _ (replicas : ℕ) (few : replicas ≤ 64) (at : ℕ) (among : at < replicas) where
  module _ (w : World) (kept : IsKeptWorld replicas w) where
    own : IsKept (state_at w at)
    own = (seat-kept replicas w kept at among).state

    pub own-put : (s : Seat) → get_or (set w.seats at s) at fresh ≡ s
    own-put s = let l : at < length w.seats = omega (arith, kept.count) in get_or-set_same w.seats at s fresh l

    pub other-put : (other : ℕ) (s : Seat) → other ≢ at → get_or (set w.seats other s) at fresh ≡ seat_at w at
    other-put other s apart = get_or-set_other w.seats other at s fresh (λ same. apart (sym same))

    -- what is put at any replica shows at this one only if it is put there
    put-unheld : (other : ℕ) (s : Seat) → (other ≡ at → unheld s.state ≡ unheld (state_at w at))
        → unheld (get_or (set w.seats other s) at fresh).state ≡ unheld (state_at w at)
    put-unheld other s here = elim (cases_Bool (other == at)) [
      | inl t ↦
          let same = eqb-true other at t in
          ap (λ (i : ℕ). unheld (get_or (set w.seats i s) at fresh).state) same
          ∙ ap (λ (seat : Seat). unheld seat.state) (own-put s) ∙ here same
      | inr f ↦ ap (λ (seat : Seat). unheld seat.state) (other-put other s (eqb-false other at f))
    ]

    keeps-away : (event : Event) → KeepsAway at event w → unheld (state_at (after_event event w) at)
        ≡ unheld (state_at w at)
    keeps-away (Change other time capture command) apart =
        ap (λ (seat : Seat). unheld seat.state)
        (other-put other (acted (change_on command capture time (nonce_at w other) (state_at w other))
        (seat_at w other)) apart)
    keeps-away (Update elements) away = refl
    keeps-away (Deliver to picks) none =
        let list : List ElementValue = all_picked w.messages picks in
        put-unheld to (delivered list (seat_at w to)) (λ same.
        ap unheld (delivered-state list (seat_at w to)
        ∙ ap (λ (i : ℕ). after_delivery list (state_at w i)) same
        ∙ empty-stays (state_at w at) list own.stored_rise (none same)))
    keeps-away (Hold other id) away =
        put-unheld other (holding (with_id id (state_at w other).held) (seat_at w other))
        (λ same. ap (λ (i : ℕ). unheld (state_at w i)) same)
    keeps-away (Release other id) away =
        put-unheld other (holding (without_id id (state_at w other).held) (seat_at w other))
        (λ same. ap (λ (i : ℕ). unheld (state_at w i)) same)
    keeps-away (Undo other time) apart =
        ap (λ (seat : Seat). unheld seat.state)
        (other-put other (acted (turn_by directions.Undo time (nonce_at w other) (state_at w other))
        (seat_at w other)) apart)
    keeps-away (Redo other time) apart =
        ap (λ (seat : Seat). unheld seat.state)
        (other-put other (acted (turn_by directions.Redo time (nonce_at w other) (state_at w other))
        (seat_at w other)) apart)

    small : nonce_at w at ≤ greatest_whole
    small = nonce-small w at (omega arith)

    -- a change, an undo and a redo here
    pub acted-here : (act : Act) → state_at (after_act at act w) at ≡ act.state
    acted-here act = ap (λ (seat : Seat). seat.state) (own-put (acted act (seat_at w at)))

    change-here : (event : Event) → IsKeptEvent replicas event → IsChangeAt at event w
        → (given : List ElementValue) × (unheld (state_at (after_event event w) at)
        ≡ changed given (unheld (state_at w at))) × IsStoredChange (state_at w at).stored given
    change-here event is change =
        let it = subst (IsKeptEvent replicas) change.is is in
        let act : Act = change_on change.command Now change.time (nonce_at w at) (state_at w at) in
        let done = change-done (state_at w at) own change.command change.time (nonce_at w at) it.within.1 it.brings
        it.within.0 small change.gives in (
          done.0,
          ap (λ (e : Event). unheld (state_at (after_event e w) at)) change.is
              ∙ ap unheld (acted-here act ∙ done.1)
              ∙ unheld-changed done.0 (state_at w at),
          done.2,
        )

    turn-here : (direction : Direction) (event : Event) → IsKeptEvent replicas event → IsTurnAt direction at event w
        → (call : Call) × (unheld (state_at (after_event event w) at)
        ≡ after_turn direction call.time call.nonce (unheld (state_at w at)))
        × IsDone call (turn_on direction call.time call.nonce (unheld (state_at w at)))
    turn-here direction event is turn =
        let s : State = state_at w at in
        let nonce : ℕ = nonce_at w at in (
          record { time = turn.time; nonce = nonce },
          ap (λ (e : Event). unheld (state_at (after_event e w) at)) turn.is
              ∙ ap (λ (v : World). unheld (state_at v at)) (turn-after direction at turn.time w)
              ∙ ap unheld (acted-here (turn_by direction turn.time nonce s) ∙ turn_by-state direction turn.time nonce s)
              ∙ unheld-turned direction turn.time nonce s turn.turn turn.found,
          record {
            time = turn-within direction replicas at turn.time (subst (IsKeptEvent replicas) turn.is is);
            nonce = small;
            turn = turn.turn;
            is = unheld-turn_on direction turn.time nonce s ∙ turn.found;
          },
        )

  -- ---- several events
  -- so many changes lead from a state to another one
  pub record ChangesLead (n : ℕ) (s now : State) : Type 0 where
    pub givens : List (List ElementValue)
    pub many : length givens ≡ n
    pub changes : AreChanges givens s
    pub comes : now ≡ changed_all givens s

  -- so many undos, or redos, do
  pub record TurnsLead (direction : Direction) (n : ℕ) (s now : State) : Type 0 where
    pub calls : List Call
    pub many : length calls ≡ n
    pub done : AreTurns direction calls s
    pub comes : now ≡ turned_all direction calls s

  -- the state after events, without its held ids
  abbrev pub comes_to : List Event → World → State
  comes_to events w = unheld (state_at (after_events events w) at)

  pub changes-lead : (events : List Event) (w : World) (n : ℕ) → AllByRecursion (IsKeptEvent replicas) events
      → IsKeptWorld replicas w → AreChangesAt at events w n → ChangesLead n (unheld (state_at w at)) (comes_to events w)
  changes-lead [] w zero all kept are = record { givens = []; many = refl; changes = tt; comes = refl }
  changes-lead [] w (suc n) all kept are = absurd are
  changes-lead (event ∷ events) w zero all kept are =
      subst (λ s. ChangesLead zero s (comes_to events (after_event event w))) (keeps-away w kept event are.0)
      (changes-lead events (after_event event w) zero all.1 (event-kept replicas few event w all.0 kept) are.1)
  changes-lead (event ∷ events) w (suc n) all kept (inl are) =
      let here = change-here w kept event all.0 are.0 in
      let rest = subst (λ s. ChangesLead n s (comes_to events (after_event event w))) here.1
      (changes-lead events (after_event event w) n all.1 (event-kept replicas few event w all.0 kept) are.1) in
      record {
        givens = here.0 ∷ rest.givens;
        many = ap suc rest.many;
        changes = (here.2, rest.changes);
        comes =
            rest.comes;
      }
  changes-lead (event ∷ events) w (suc n) all kept (inr are) =
      subst (λ s. ChangesLead (suc n) s (comes_to events (after_event event w))) (keeps-away w kept event are.0)
      (changes-lead events (after_event event w) (suc n) all.1 (event-kept replicas few event w all.0 kept) are.1)

  pub turns-lead : (direction : Direction) (events : List Event) (w : World) (n : ℕ)
      → AllByRecursion (IsKeptEvent replicas) events → IsKeptWorld replicas w
      → AreAmong (IsTurnAt direction) at events w n → TurnsLead direction n (unheld (state_at w at)) (comes_to events w)
  turns-lead direction [] w zero all kept are = record { calls = []; many = refl; done = tt; comes = refl }
  turns-lead direction [] w (suc n) all kept are = absurd are
  turns-lead direction (event ∷ events) w zero all kept are =
      subst (λ s. TurnsLead direction zero s (comes_to events (after_event event w))) (keeps-away w kept event are.0)
      (turns-lead direction events (after_event event w) zero all.1 (event-kept replicas few event w all.0 kept) are.1)
  turns-lead direction (event ∷ events) w (suc n) all kept (inl are) =
      let here = turn-here w kept direction event all.0 are.0 in
      let rest = subst (λ s. TurnsLead direction n s (comes_to events (after_event event w))) here.1
      (turns-lead direction events (after_event event w) n all.1 (event-kept replicas few event w all.0 kept) are.1) in
      record { calls = here.0 ∷ rest.calls; many = ap suc rest.many; done = (here.2, rest.done); comes = rest.comes }
  turns-lead direction (event ∷ events) w (suc n) all kept (inr are) =
      subst (λ s. TurnsLead direction (suc n) s (comes_to events (after_event event w))) (keeps-away w kept event are.0)
      (turns-lead direction events (after_event event w) (suc n) all.1 (event-kept replicas few event w all.0 kept)
      are.1)
