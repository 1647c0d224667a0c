-- The replicas of a world by their numbers: what one took stays taken, and what is delivered to one that holds nothing
-- is taken.
use Rattle.std.proofs.Common.{◌≡◌, ℕ, zero, suc, ◌<◌, List, [], ◌∷◌, length, get_or, set, replicate, Contains, refl, sym, ap, ◌∙◌, subst, get_or-set_same, length-set, arith}
use Rattle.std.proofs.lemmas.List.{length-replicate}
use Rattle.std.proofs.lemmas.List.Elements.{Contains-append_left, Contains-append_right}
use Rattle.elem.specs.ElementValue.{ElementValue}
use Rattle.reconcile.specs.Ids.{free_elements}
use Rattle.history.specs.declared.planned.Direction.TheVariants as directions
use Rattle.session_text.specs.declared.event.Event.{Event}
use Rattle.session_text.specs.declared.event.Event.TheVariants.{Change, Update, Deliver, Hold, Release, Undo, Redo}
use Rattle.session_text.specs.declared.session.Session.{Session}
use Rattle.session.specs.Worlds.{Seat, World, Act, fresh, delivered, holding, with_id, without_id, acted, given_of, change_on, turn_by, seat_at, state_at, nonce_at, all_picked, after_act, after_seat, after_event, after_events, opened, opening_elements}

-- ---- replicas by their numbers
-- what holds of one that is put and of all before holds of all
pub at-set : (Q : ℕ → Seat → Type 0) (seats : List Seat) (at : ℕ) (s : Seat) → Q at s
    → ((i : ℕ) → Q i (get_or seats i fresh)) → (i : ℕ) → Q i (get_or (set seats at s) i fresh)
at-set Q [] at s own all i = all i
at-set Q (x ∷ seats) zero s own all zero = own
at-set Q (x ∷ seats) zero s own all (suc i) = all (suc i)
at-set Q (x ∷ seats) (suc at) s own all zero = all zero
at-set Q (x ∷ seats) (suc at) s own all (suc i) =
    at-set (λ (j : ℕ) (t : Seat). Q (suc j) t) seats at s own (λ j. all (suc j)) i

pub at-replicated : (Q : Seat → Type 0) (count : ℕ) (s : Seat) → Q s → Q fresh → (i : ℕ)
    → Q (get_or (replicate count s) i fresh)
at-replicated Q zero s own none i = none
at-replicated Q (suc count) s own none zero = own
at-replicated Q (suc count) s own none (suc i) = at-replicated Q count s own none i

pub at-within : (Q : Seat → Type 0) (count : ℕ) (s : Seat) → Q s → (i : ℕ) → i < count
    → Q (get_or (replicate count s) i fresh)
at-within Q zero s own i l = absurd (omega arith)
at-within Q (suc count) s own zero l = own
at-within Q (suc count) s own (suc i) l = at-within Q count s own i (omega arith)

-- one of the replicas has a number
pub numbered : (seats : List Seat) (s : Seat) → Contains seats s → (at : ℕ) × (at < length seats)
    × (get_or seats at fresh ≡ s)
numbered [] s c = absurd (omega (arith, c.1))
numbered (x ∷ seats) s (zero, l, is) = (zero, l, is)
numbered (x ∷ seats) s (suc k, l, is) =
    let later = numbered seats s (k, omega arith, is) in
    (suc later.0, omega (arith, later.1), later.2)

-- ---- what is taken
-- what each replica took in the one world it took in the other
abbrev pub Keeps : World → World → Type 0
Keeps w new = (at : ℕ) (e : ElementValue) → Contains (seat_at w at).taken e → Contains (seat_at new at).taken e

pub seat-keeps : (w : World) (at : ℕ) (s : Seat)
    → ((e : ElementValue) → Contains (seat_at w at).taken e → Contains s.taken e) → Keeps w (after_seat at s w)
seat-keeps w at s keeps = at-set (λ (i : ℕ) (t : Seat). (e : ElementValue) → Contains (seat_at w i).taken e
    → Contains t.taken e) w.seats at s keeps (λ i e c. c)

pub act-keeps : (w : World) (at : ℕ) (act : Act) → Keeps w (after_act at act w)
act-keeps w at act =
    at-set (λ (i : ℕ) (t : Seat). (e : ElementValue) → Contains (seat_at w i).taken e
    → Contains t.taken e) w.seats at (acted act (seat_at w at))
    (λ e c. Contains-append_left (seat_at w at).taken (given_of act.outcome) e c) (λ i e c. c)

pub delivered-keeps : (list : List ElementValue) (s : Seat) (e : ElementValue) → Contains s.taken e
    → Contains (delivered list s).taken e
unfolding delivered
delivered-keeps list s e c = Contains-append_left s.taken (free_elements s.state.held list) e c

event-keeps : (event : Event) (w : World) → Keeps w (after_event event w)
event-keeps (Change at time capture command) w =
    act-keeps w at (change_on command capture time (nonce_at w at) (state_at w at))
event-keeps (Update elements) w = λ at e c. c
event-keeps (Deliver to picks) w =
    seat-keeps w to (delivered (all_picked w.messages picks) (seat_at w to))
    (delivered-keeps (all_picked w.messages picks) (seat_at w to))
event-keeps (Hold at id) w = seat-keeps w at (holding (with_id id (state_at w at).held) (seat_at w at)) (λ e c. c)
event-keeps (Release at id) w = seat-keeps w at (holding (without_id id (state_at w at).held) (seat_at w at)) (λ e c. c)
event-keeps (Undo at time) w = act-keeps w at (turn_by directions.Undo time (nonce_at w at) (state_at w at))
event-keeps (Redo at time) w = act-keeps w at (turn_by directions.Redo time (nonce_at w at) (state_at w at))

pub events-keep : (events : List Event) (w : World) → Keeps w (after_events events w)
events-keep [] w at e c = c
events-keep (event ∷ events) w at e c = events-keep events (after_event event w) at e (event-keeps event w at e c)

-- ---- how many replicas there are
event-seats : (event : Event) (w : World) → length (after_event event w).seats ≡ length w.seats
event-seats (Change at time capture command) w = length-set w.seats at _
event-seats (Update elements) w = refl
event-seats (Deliver to picks) w = length-set w.seats to _
event-seats (Hold at id) w = length-set w.seats at _
event-seats (Release at id) w = length-set w.seats at _
event-seats (Undo at time) w = length-set w.seats at _
event-seats (Redo at time) w = length-set w.seats at _

pub events-seats : (events : List Event) (w : World) → length (after_events events w).seats ≡ length w.seats
events-seats [] w = refl
events-seats (event ∷ events) w = events-seats events (after_event event w) ∙ event-seats event w

pub opened-seats : (session : Session) → length (opened session).seats ≡ session.replicas
opened-seats session = length-replicate session.replicas (delivered (opening_elements session) fresh)

-- ---- what is delivered
free-all : (list : List ElementValue) → free_elements [] list ≡ list
free-all [] = refl
free-all (e ∷ list) = ap (λ es. e ∷ es) (free-all list)

pub delivered-takes : (list : List ElementValue) (s : Seat) → s.state.held ≡ [] → (e : ElementValue) → Contains list e
    → Contains (delivered list s).taken e
unfolding delivered
delivered-takes list s none e c =
    Contains-append_right s.taken (free_elements s.state.held list) e
    (subst (λ es. Contains es e) (sym (ap (λ ids. free_elements ids list) none ∙ free-all list)) c)

-- each replica begins with the opening elements
pub opened-takes : (session : Session) (at : ℕ) → at < session.replicas → (e : ElementValue)
    → Contains (opening_elements session) e → Contains (seat_at (opened session) at).taken e
opened-takes session at l e c =
    at-within (λ (t : Seat). Contains t.taken e) session.replicas (delivered (opening_elements session) fresh)
    (delivered-takes (opening_elements session) fresh refl e c) at l

-- the replica with a number once one was put there
pub put-there : (seats : List Seat) (at : ℕ) (s : Seat) → at < length seats → get_or (set seats at s) at fresh ≡ s
put-there seats at s l = get_or-set_same seats at s fresh l
