-- In a session of own updates each element of a message was made by a replica that took it, and has the replica's
-- number in the last bits of its nonce; so no two elements clash where the opening ones don't.
use Rattle.std.proofs.Common.{◌≡◌, ℕ, ◌+◌, ◌*◌, ◌<◌, ◌≤◌, List, [], ◌∷◌, ◌++◌, length, take, None, Contains, inl, inr, sym, ap, ◌∙◌, subst, length-set, append_assoc, append-nil, arith}
use Rattle.std.specs.List.{AllByRecursion}
use Rattle.std.proofs.lemmas.List.Elements.{Contains-append_right, Contains-append_cases, All-take, All-from_recursion, recursion_from_All}
use Rattle.std.proofs.lemmas.Option.{same_Some}
use Rattle.elem.specs.ElementValue.{ElementValue}
use Rattle.elem_store.specs.Updates.{element_of, IsFreeOfClashes}
use Rattle.elem_store.proofs.CallerLemmas.{member}
use Rattle.history.specs.declared.planned.Direction.TheVariants as directions
use Rattle.session_text.specs.Facts.{IsAmong, IsSession}
use Rattle.session_text.specs.declared.event.Event.{Event}
use Rattle.session_text.specs.declared.event.Event.TheVariants.{Change, Update, Deliver, Hold, Release, Undo, Redo}
use Rattle.session_text.specs.declared.session.Session.{Session}
use Rattle.session.specs.declared.report.Report.{Report}
use Rattle.session.specs.Clashes.{HaveClashes}
use Rattle.session.specs.Reports.{IsReportOf}
use Rattle.session_random.specs.Words.{next_word}
use Rattle.clash.proofs.CallerLemmas.{AreAlike}
use Rattle.session.specs.Worlds.{Seat, World, Act, fresh, delivered, holding, with_id, without_id, acted, given_of, change_on, turn_by, seat_at, state_at, nonce_at, all_picked, after_act, after_seat, after_event, after_events, opened, opening_elements, all_elements, world_after, last_world}
use Rattle.session.proofs.CallerLemmas.{flat, clashes-same, flat-more}
use Rattle.session_laws.specs.Own.{IsOwnEvent, HasOwnUpdates}
use Rattle.session_laws.proofs.Seats.{at-set, at-replicated, Keeps, seat-keeps, act-keeps, delivered-keeps, opened-seats, opened-takes, put-there}
use Rattle.session_laws.proofs.Giving.{IsReady, fresh-ready, delivered-ready, IsOwnAct, acted-ready, change-own, turn-own}
use Rattle.session_laws.proofs.Ties.{free-more, none-free, free-of-clashes, covered}

-- ---- an element that a replica made
pub record IsMade (replicas : ℕ) (w : World) (e : ElementValue) : Type 0 where
  pub at : ℕ
  pub word : ℕ
  pub among : at < replicas
  pub nonce : e.nonce ≡ 64 * word + at
  pub taken : Contains (seat_at w at).taken e

-- the opening elements and those of all messages
abbrev all_of : List ElementValue → World → List ElementValue
all_of opening w = opening ++ flat w.messages

-- There are so many replicas, each is ready and took the opening elements, each element of a message was made, and none
-- clash.
pub record IsOwnWorld (replicas : ℕ) (opening : List ElementValue) (w : World) : Type 0 where
  pub seats : length w.seats ≡ replicas
  pub ready : (at : ℕ) → IsReady (seat_at w at)
  pub begun : (at : ℕ) → at < replicas → (e : ElementValue) → Contains opening e → Contains (seat_at w at).taken e
  pub made : (e : ElementValue) → Contains (flat w.messages) e → IsMade replicas w e
  pub free : IsFreeOfClashes (all_of opening w)

module _ (replicas : ℕ) (opening : List ElementValue) where
  kept-made : (w new : World) → Keeps w new → (e : ElementValue) → IsMade replicas w e → IsMade replicas new e
  kept-made w new keeps e made = record {
    at = made.at;
    word = made.word;
    among = made.among;
    nonce = made.nonce;
    taken = keeps made.at e made.taken;
  }

  -- ---- no message is made
  seat-owns : (w : World) (at : ℕ) (s : Seat) → IsReady s
      → ((e : ElementValue) → Contains (seat_at w at).taken e → Contains s.taken e) → IsOwnWorld replicas opening w
      → IsOwnWorld replicas opening (after_seat at s w)
  seat-owns w at s ready keeps own =
      let kept = seat-keeps w at s keeps in
      record {
        seats = length-set w.seats at s ∙ own.seats;
        ready = at-set (λ (i : ℕ) (t : Seat). IsReady t) w.seats at s ready own.ready;
        begun = λ i l e c. kept i e (own.begun i l e c);
        made = λ e c. kept-made w (after_seat at s w) kept e (own.made e c);
        free = own.free;
      }

  -- ---- one message more
  module _ (most : replicas ≤ 64) (w : World) (own : IsOwnWorld replicas opening w) (at : ℕ) (within : at < replicas)
      (act : Act) (acts : IsOwnAct (state_at w at) (nonce_at w at) act) where
    abbrev given : List ElementValue
    given = given_of act.outcome

    given-taken : (e : ElementValue) → Contains given e → Contains (seat_at (after_act at act w) at).taken e
    given-taken e c =
        let there : at < length w.seats = omega (arith, within, own.seats) in
        subst (λ (t : Seat). Contains t.taken e) (sym (put-there w.seats at (acted act (seat_at w at)) there))
        (Contains-append_right (seat_at w at).taken given e c)

    act-made : (e : ElementValue) → Contains (flat (w.messages ++ given ∷ [])) e
        → IsMade replicas (after_act at act w) e
    act-made e c =
        elim (Contains-append_cases (flat w.messages) given e
        (subst (λ es. Contains es e) (flat-more w.messages given) c)) [
          | inl old ↦ kept-made w (after_act at act w) (act-keeps w at act) e (own.made e old)
          | inr new ↦ record {
            at = at;
            word = next_word w.generator;
            among = within;
            nonce = acts.gives.nonces e new;
            taken = given-taken e new;
          }
        ]

    -- what the replica took of the nonce, and what it began with, is of no higher version than what it stores
    taken-here : (e x : ElementValue) → Contains given e → Contains (all_of opening w) x → e.nonce ≡ x.nonce
        → Contains (seat_at w at).taken x
    taken-here e x c d same = elim (Contains-append_cases opening (flat w.messages) x d) [
      | inl first ↦ own.begun at within x first
      | inr later ↦
          let made = own.made x later in
          let bits : 64 * made.word + made.at ≡ 64 * next_word w.generator + at =
          sym made.nonce ∙ sym same ∙ acts.gives.nonces e c in
          let one : made.at ≡ at = number made.word made.at (next_word w.generator) at bits
          (omega (arith, made.among, most)) (omega (arith, within, most)) in
          subst (λ i. Contains (seat_at w i).taken x) one made.taken
    ]
      where
        number : (a i b j : ℕ) → 64 * a + i ≡ 64 * b + j → i < 64 → j < 64 → i ≡ j
        number a i b j h k l = omega arith

    apart : (e x : ElementValue) → Contains given e → Contains (all_of opening w) x → AreAlike e x → ⊥
    apart e x c d alike =
        let cover = covered (seat_at w at).taken (state_at w at).stored x (own.ready at).stores
        (taken-here e x c d alike.nonce) in
        let higher = acts.gives.newer e cover.old c (ap (element_of (state_at w at).stored) alike.id ∙ cover.found) in
        let same = alike.version in
        let least = cover.least in
        omega arith

    one-of-id : (e other : ElementValue) → Contains given e → Contains given other → e.id ≡ other.id → e ≡ other
    one-of-id e other c d same =
        same_Some e other
        (sym (member None None given e acts.gives.rise c) ∙ ap (element_of given) same
        ∙ member None None given other acts.gives.rise d)

    act-free : IsFreeOfClashes (all_of opening (after_act at act w))
    act-free =
        subst IsFreeOfClashes (append_assoc opening (flat w.messages) given
        ∙ ap (λ es. opening ++ es) (sym (flat-more w.messages given)))
        (free-more (all_of opening w) given own.free apart one-of-id)

    act-owns : IsOwnWorld replicas opening (after_act at act w)
    act-owns = record {
      seats = length-set w.seats at (acted act (seat_at w at)) ∙ own.seats;
      ready = at-set (λ (i : ℕ) (t : Seat). IsReady t) w.seats at (acted act (seat_at w at))
          (acted-ready (seat_at w at) (nonce_at w at) act (own.ready at) acts) own.ready;
      begun = λ i l e c. act-keeps w at act i e (own.begun i l e c);
      made = act-made;
      free = act-free;
    }

  -- ---- events
  module _ (most : replicas ≤ 64) where
    event-owns : (event : Event) (w : World) → IsAmong replicas event → IsOwnEvent event → IsOwnWorld replicas opening w
        → IsOwnWorld replicas opening (after_event event w)
    event-owns (Change at time capture command) w l h own =
        act-owns most w own at l (change_on command capture time (nonce_at w at) (state_at w at))
        (change-own (seat_at w at) (own.ready at) time (nonce_at w at) command capture)
    event-owns (Update elements) w l h own = absurd h
    event-owns (Deliver to picks) w l h own =
        seat-owns w to (delivered (all_picked w.messages picks) (seat_at w to))
        (delivered-ready (all_picked w.messages picks) (seat_at w to) (own.ready to))
        (delivered-keeps (all_picked w.messages picks) (seat_at w to)) own
    event-owns (Hold at id) w l h own =
        let ready = own.ready at in
        seat-owns w at (holding (with_id id (state_at w at).held) (seat_at w at))
        (record { stores = ready.stores; undo = ready.undo; redo = ready.redo }) (λ e c. c) own
    event-owns (Release at id) w l h own =
        let ready = own.ready at in
        seat-owns w at (holding (without_id id (state_at w at).held) (seat_at w at))
        (record { stores = ready.stores; undo = ready.undo; redo = ready.redo }) (λ e c. c) own
    event-owns (Undo at time) w l h own =
        act-owns most w own at l (turn_by directions.Undo time (nonce_at w at) (state_at w at))
        (turn-own (seat_at w at) (own.ready at) time (nonce_at w at) directions.Undo)
    event-owns (Redo at time) w l h own =
        act-owns most w own at l (turn_by directions.Redo time (nonce_at w at) (state_at w at))
        (turn-own (seat_at w at) (own.ready at) time (nonce_at w at) directions.Redo)

    events-own : (events : List Event) (w : World) → AllByRecursion (IsAmong replicas) events
        → AllByRecursion IsOwnEvent events → IsOwnWorld replicas opening w
        → IsOwnWorld replicas opening (after_events events w)
    events-own [] w places all own = own
    events-own (event ∷ events) w places all own =
        events-own events (after_event event w) places.1 all.1 (event-owns event w places.0 all.0 own)

-- ---- a session
opened-owns : (session : Session) → HaveClashes [] (opening_elements session) 0
    → IsOwnWorld session.replicas (opening_elements session) (opened session)
opened-owns session none = record {
  seats = opened-seats session;
  ready = at-replicated IsReady session.replicas (delivered (opening_elements session) fresh)
      (delivered-ready (opening_elements session) fresh fresh-ready) fresh-ready;
  begun = opened-takes session;
  made = λ e c. absurd (omega (arith, c.1));
  free =
      subst IsFreeOfClashes (sym (append-nil (opening_elements session))) (none-free (opening_elements session) none);
}

first-ones : (P : Event → Type 0) (count : ℕ) (events : List Event) → AllByRecursion P events
    → AllByRecursion P (take count events)
first-ones P count events all =
    recursion_from_All P (take count events) (All-take P count events (All-from_recursion P events all))

module _ (session : Session) (is : IsSession session) (own : HasOwnUpdates session)
    (none : HaveClashes [] (opening_elements session) 0) where
  events-free : (events : List Event) → AllByRecursion (IsAmong session.replicas) events
      → AllByRecursion IsOwnEvent events → HaveClashes [] (all_elements session (after_events events (opened session)))
      0
  events-free events places all =
      free-of-clashes (all_elements session (after_events events (opened session)))
      (events-own session.replicas (opening_elements session) is.most events (opened session) places all
      (opened-owns session none)).free

  pub no-clash : (count : ℕ) → HaveClashes [] (all_elements session (world_after session count)) 0
  no-clash count =
      events-free (take count session.events) (first-ones (IsAmong session.replicas) count session.events is.places)
      (first-ones IsOwnEvent count session.events own)

  pub no-clash-told : (report : Report) → IsReportOf session (last_world session) report → report.clashes ≡ 0
  no-clash-told report told =
      clashes-same [] (all_elements session (last_world session)) report.clashes 0 told.clashes
      (events-free session.events is.places own)
