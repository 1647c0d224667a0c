-- Lines lead a living replica where events lead the replica of a session with its number.
use Rattle.std.proofs.Common.{◌≡◌, ◌<◌, ◌+◌, ◌*◌, inl, inr, ℕ, zero, suc, List, [], ◌∷◌, ◌++◌, length, get_or, Some, None, Result, Ok, Err, refl, sym, ap, ◌∙◌, subst, add-zero, append-nil, length-append, get_or-set_same, length-set, arith}
use Rattle.std.proofs.lemmas.List.{get_or-replicate, length-replicate}
use Rattle.std.proofs.lemmas.Option.{none-some, same_Some}
use Rattle.session_random.specs.Words.{next_generator, next_word}
use Rattle.elem.specs.ElementValue.{ElementValue}
use Rattle.history.specs.declared.planned.Direction.TheVariants as directions
use Rattle.replica.specs.State.{State}
use Rattle.scene_file.specs.Heads.{Heading}
use Rattle.room_msg.specs.Messages.{IsReadAs, IsWholeMessage}
use Rattle.room_msg.specs.declared.fault.MsgFault.{MsgFault}
use Rattle.room_msg.specs.declared.message.Message.{Message}
use Rattle.session_text.specs.Sessions.{made_after, messages_of}
use Rattle.session_text.specs.declared.event.Event.{Event}
use Rattle.session_text.specs.declared.event.Event.TheVariants as events
use Rattle.session_text.specs.declared.fault.TextFault.{TextFault}
use Rattle.session_text.specs.declared.fault.TextFault.TheVariants.{Json}
use Rattle.session_text.specs.declared.lines.Line.{Line}
use Rattle.session_text.specs.declared.lines.Line.TheVariants as lines
use Rattle.session_text.specs.Lines.{IsReplicaOpening, LineText, OpeningText}
use Rattle.session_text.specs.declared.lines.Opening.{Opening}
use Rattle.session_text.proofs.CallerLemmas.{apart, opening-kept}
use Rattle.session.specs.Worlds.{Act, Seat, World, acted, after_act, after_event, after_events, after_seat, change_on, delivered, fresh, given_of, head_of, holding, nonce_at, opened, opening_elements, seat_at, state_at, turn_by, with_id, without_id}
use Rattle.session.proofs.CallerLemmas.{events-append}
use Rattle.line_replica.specs.Living.{Living, Reply, IsReply, brought_by, nonce_of, of_act, of_change, of_read, of_taking, of_turn, opened_as, session_of}
use Rattle.line_replica.specs.Sessions.{AreEventsOf, AreReadEvents, IsInSession, SayEvents, message_events, taking_events}
use Rattle.line_replica.proofs.SessionKept.{keeps-session}
use Rattle.line_replica.specs.Talks.{AnswersAll, IsReadReply, LineReads, faulty, opened_by, says}

-- A living replica sits at a number of a world, in which so many messages were made.
pub record Sits (head : Heading) (number made : ℕ) (w : World) (l : Living) : Type 0 where
  pub within : number < length w.seats
  pub numbered : l.number ≡ number
  pub headed : l.head ≡ head
  pub seat : l.seat ≡ seat_at w number
  pub generator : l.generator ≡ w.generator
  pub counted : length w.messages ≡ made

-- So it does behind these events.
record SitsAfter (head : Heading) (number made : ℕ) (w : World) (es : List Event) (l : Living) : Type 0 where
  sits : Sits head number (made_after made es) (after_events es w) l

module _ (head : Heading) (number made : ℕ) (w : World) (l : Living) (sits : Sits head number made w l) where
  pub nonce-same : nonce_at w number ≡ nonce_of l
  nonce-same = sym ((λ i. 64 * next_word (sits.generator i) + sits.numbered i))

  pub state-same : state_at w number ≡ l.seat.state
  state-same = sym (ap (λ (s : Seat). s.state) sits.seat)

  -- ---- a change, an undo or a redo
  pub act-sits : (text : List ℕ) (act : ℕ → State → Act)
      → Sits head number (made + 1) (after_act number (act (nonce_at w number) (state_at w number)) w)
      (of_act text (act (nonce_of l) l.seat.state) l).after
  act-sits text act =
      let own : Act = act (nonce_at w number) (state_at w number) in
      let same : act (nonce_of l) l.seat.state ≡ own = λ i. act (sym nonce-same i) (sym state-same i) in
      record {
        within = let many = length-set w.seats number (acted own (seat_at w number)) in let l' = sits.within in
            omega (arith, many);
        numbered = sits.numbered;
        headed = sits.headed;
        seat = (λ i. acted (same i) (sits.seat i))
            ∙ sym (get_or-set_same w.seats number (acted own (seat_at w number)) fresh sits.within);
        generator = ap next_generator sits.generator;
        counted = let many = length-append w.messages (given_of own.outcome ∷ []) in omega (arith, many, sits.counted);
      }

  -- ---- a seat alone
  seat-sits : (seat : Seat → Seat) → Sits head number made (after_seat number (seat (seat_at w number)) w)
      (record l { seat = seat l.seat })
  seat-sits seat = record {
    within =
        let many = length-set w.seats number (seat (seat_at w number)) in let l' = sits.within in omega (arith, many);
    numbered = sits.numbered;
    headed = sits.headed;
    seat = ap seat sits.seat ∙ sym (get_or-set_same w.seats number (seat (seat_at w number)) fresh sits.within);
    generator = sits.generator;
    counted = sits.counted;
  }

-- the last message is the one with this number
last-message : (messages : List (List ElementValue)) (elements : List ElementValue) (made : ℕ) → length messages ≡ made
    → get_or (messages ++ elements ∷ []) made [] ≡ elements
last-message [] elements zero e = refl
last-message [] elements (suc made) e = absurd (omega (arith, e))
last-message (message ∷ messages) elements zero e = absurd (omega (arith, e))
last-message (message ∷ messages) elements (suc made) e = last-message messages elements made (omega (arith, e))

module _ (head : Heading) (number made : ℕ) (w : World) (l : Living) (sits : Sits head number made w l) where
  -- a message more
  message-sits : (elements : List ElementValue) → Sits head number (made + 1) (after_event (events.Update elements) w) l
  message-sits elements = record {
    within = sits.within;
    numbered = sits.numbered;
    headed = sits.headed;
    seat = sits.seat;
    generator = sits.generator;
    counted = let many = length-append w.messages (elements ∷ []) in omega (arith, many, sits.counted);
  }

  taking-sits : (elements : List ElementValue)
      → SitsAfter head number made w (taking_events number made elements) (of_taking elements l).after
  taking-sits elements = record {
    sits = subst (λ m. Sits head number m (after_events (taking_events number made elements) w)
        (of_taking elements l).after) (sym (add-zero (made + 1)))
        (subst (λ list. Sits head number (made + 1) (after_seat number (delivered list (seat_at w number))
        (after_event (events.Update elements) w)) (of_taking elements l).after)
        (sym (append-nil (get_or (w.messages ++ elements ∷ []) made [])
        ∙ last-message w.messages elements made sits.counted))
        (seat-sits head number (made + 1) (after_event (events.Update elements) w) l (message-sits elements)
        (delivered elements)));
  }

  message_read-sits : (read : Result Message MsgFault)
      → SitsAfter head number made w (message_events number made read) (of_read read l).after
  message_read-sits (Ok message) = taking-sits (brought_by message)
  message_read-sits (Err why) = record { sits = sits }

  -- ---- a line is events that lead there
  hold-after : (id : List ℕ) → SitsAfter head number made w (events.Hold number id ∷ [])
      (record l { seat = holding (with_id id l.seat.state.held) l.seat })
  hold-after id = record {
    sits =
        subst (λ m. Sits head number m (after_event (events.Hold number id) w)
        (record l { seat = holding (with_id id l.seat.state.held) l.seat })) (sym (add-zero made))
        (seat-sits head number made w l sits (λ s. holding (with_id id s.state.held) s));
  }

  release-after : (id : List ℕ) → SitsAfter head number made w (events.Release number id ∷ [])
      (record l { seat = holding (without_id id l.seat.state.held) l.seat })
  release-after id = record {
    sits =
        subst (λ m. Sits head number m (after_event (events.Release number id) w)
        (record l { seat = holding (without_id id l.seat.state.held) l.seat })) (sym (add-zero made))
        (seat-sits head number made w l sits (λ s. holding (without_id id s.state.held) s));
  }

  abbrev Leads : Line → Reply → Type 0
  Leads line reply = (es : List Event) × AreEventsOf number made line es × SitsAfter head number made w es reply.after

  stays : (line : Line) (reply : Reply) (text : List ℕ) → reply ≡ record { text = text; after = l }
      → AreEventsOf number made line [] → Leads line reply
  stays line reply text is are =
      ([], are, record { sits = subst (λ (r : Reply). Sits head number made w r.after) (sym is) sits })

  one-event : (line : Line) (reply other : Reply) (event : Event) → reply ≡ other
      → AreEventsOf number made line (event ∷ []) → SitsAfter head number made w (event ∷ []) other.after
      → Leads line reply
  one-event line reply other event is are after =
      (event ∷ [], are, subst (λ (r : Reply). SitsAfter head number made w (event ∷ []) r.after) (sym is) after)

  line-leads : (line : Line) (reply : Reply) → IsReply l line reply → Leads line reply
  line-leads (lines.Change time capture command) reply is =
      one-event (lines.Change time capture command) reply (of_change command capture time l)
      (events.Change number time capture command) is refl
      (record {
        sits = act-sits head number made w l sits (of_change command capture time l).text
            (λ nonce s. change_on command capture time nonce s);
      })
  line-leads (lines.Undo time) reply is =
      one-event (lines.Undo time) reply (of_turn directions.Undo time l) (events.Undo number time) is refl
      (record {
        sits = act-sits head number made w l sits (of_turn directions.Undo time l).text
            (λ nonce s. turn_by directions.Undo time nonce s);
      })
  line-leads (lines.Redo time) reply is =
      one-event (lines.Redo time) reply (of_turn directions.Redo time l) (events.Redo number time) is refl
      (record {
        sits = act-sits head number made w l sits (of_turn directions.Redo time l).text
            (λ nonce s. turn_by directions.Redo time nonce s);
      })
  line-leads (lines.Take elements) reply is = (
    taking_events number made elements,
    refl,
    subst (λ (r : Reply). SitsAfter head number made w (taking_events number made elements) r.after) (sym is)
        (taking-sits elements),
  )
  line-leads (lines.Receive text) reply (read, reads, is) = (
    message_events number made read,
    (read, reads, refl),
    subst (λ (r : Reply). SitsAfter head number made w (message_events number made read) r.after) (sym is)
        (message_read-sits read),
  )
  line-leads (lines.Hold id) reply is = (
    events.Hold number id ∷ [],
    refl,
    subst (λ (r : Reply). SitsAfter head number made w (events.Hold number id ∷ [])
        r.after) (sym is) (hold-after id),
  )
  line-leads (lines.Release id) reply is = (
    events.Release number id ∷ [],
    refl,
    subst (λ (r : Reply). SitsAfter head number made w (events.Release number id ∷ []) r.after) (sym is)
        (release-after id),
  )
  line-leads lines.Scene reply is = stays lines.Scene reply _ is refl
  line-leads lines.State reply is = stays lines.State reply _ is refl
  line-leads (lines.Stored id) reply is = stays (lines.Stored id) reply _ is refl
  line-leads lines.Lengths reply is = stays lines.Lengths reply _ is refl
  line-leads lines.Pending reply is = stays lines.Pending reply _ is refl

  read-leads : (read : Result Line TextFault) (reply : Reply) → IsReadReply l read reply → (es : List Event)
      × AreReadEvents number made read es × SitsAfter head number made w es reply.after
  read-leads (Ok line) reply is = line-leads line reply is
  read-leads (Err why) reply is =
      ([], refl, record { sits = subst (λ (r : Reply). Sits head number made w r.after) (sym is) sits })

-- ---- several lines
pub record Come (head : Heading) (number made : ℕ) (w : World) (lines : List (List ℕ)) (l : Living) : Type 0 where
  pub events : List Event
  pub say : SayEvents number made lines events
  pub sits : Sits head number (made_after made events) (after_events events w) l

pub after-append : (made : ℕ) (es others : List Event)
    → made_after made (es ++ others) ≡ made_after (made_after made es) others
after-append made [] others = refl
after-append made (event ∷ es) others = after-append (made + messages_of event) es others

-- these events and others behind them lead there
pub sits-behind : (head : Heading) (number made : ℕ) (w : World) (l : Living) (es others : List Event)
    → Sits head number (made_after (made_after made es) others) (after_events others (after_events es w)) l
    → Sits head number (made_after made (es ++ others)) (after_events (es ++ others) w) l
sits-behind head number made w l es others sits =
    subst (λ m. Sits head number m (after_events (es ++ others) w) l) (sym (after-append made es others))
    (subst (λ (v : World). Sits head number (made_after (made_after made es) others) v l)
    (sym (events-append es others w)) sits)

-- a line is events, and then the others are
come-on : (head : Heading) (number made : ℕ) (w : World) (l m : Living) (bytes : List ℕ) (lines : List (List ℕ))
    (read : Result Line TextFault) (reply : Reply) → Sits head number made w l → LineReads LineText bytes read
    → IsReadReply l read reply → ((es : List Event)
    → Sits head number (made_after made es) (after_events es w) reply.after
    → Come head number (made_after made es) (after_events es w) lines m)
    → Come head number made w (bytes ∷ lines) m
come-on head number made w l m bytes lines read reply sits reads is rest =
    let led = read-leads head number made w l sits read reply is in
    let later = rest led.0 led.2.sits in
    record {
      events = led.0 ++ later.events;
      say = (read, led.0, later.events, reads, led.1, refl, later.say);
      sits = sits-behind head number made w m led.0 later.events later.sits;
    }

pub come : (head : Heading) (number made : ℕ) (w : World) (l m : Living) (lines texts : List (List ℕ))
    → AnswersAll (Some l) lines texts (Some m) → Sits head number made w l → Come head number made w lines m
come head number made w l m [] texts are sits =
    record {
      events = [];
      say = refl;
      sits =
          subst (λ (x : Living). Sits head number made w x) (sym (same_Some m l are.1)) sits;
    }
come head number made w l m (line ∷ lines) [] are sits = absurd are
come head number made w l m (line ∷ lines) (text ∷ texts) (middle, one, more) sits =
    come-on head number made w l m line lines one.read one.reply sits one.reads one.is
    (λ es after. come head number (made_after made es) (after_events es w) one.reply.after m lines texts
    (subst (λ x. AnswersAll x lines texts (Some m)) one.after more) after)

-- ---- from the opening on
pub opened-sits : (opening : Opening) (es : List Event) → opening.number < 64
    → Sits (head_of (session_of opening [])) opening.number 0 (opened (session_of opening es)) (opened_as opening)
opened-sits opening es few = record {
  within = let many = length-replicate 64 (delivered (opening_elements (session_of opening es)) fresh) in
      omega (arith, few, many);
  numbered = refl;
  headed = refl;
  seat =
      sym (get_or-replicate 64 opening.number (delivered (opening_elements (session_of opening es)) fresh) fresh few);
  generator = refl;
  counted = refl;
}

-- each message that is read is whole
abbrev pub AreWhole : Type 0
AreWhole = (text : List ℕ) (message : Message) → IsReadAs text (Ok message) → IsWholeMessage message

pub in-session : AreWhole → (lines texts : List (List ℕ)) (l : Living) → AnswersAll None lines texts (Some l)
    → IsInSession lines l
in-session whole [] texts l are = absurd (none-some l (sym are.1))
in-session whole (line ∷ lines) [] l are = absurd are
in-session whole (line ∷ lines) (text ∷ texts) l (middle, one, more) =
    by one.read one.reads (subst (λ x. AnswersAll x lines texts (Some l)) one.after more)
    (in-session whole lines texts l)
  where
    kept : (opening : Opening) → LineReads OpeningText line (Ok opening) → IsReplicaOpening opening
    kept opening (says text alone is) = opening-kept text opening is
    kept opening (faulty fault is e) = absurd (apart opening (Json fault) e)

    by : (read : Result Opening TextFault) → LineReads OpeningText line read
        → AnswersAll (opened_by read) lines texts (Some l)
        → (AnswersAll None lines texts (Some l) → IsInSession lines l) → IsInSession (line ∷ lines) l
    by (Err why) reads others rest-of =
        let rest = rest-of others in
        record {
          opening = rest.opening;
          events = rest.events;
          say = inl (why, reads, rest.say);
          number = rest.number;
          head = rest.head;
          seat = rest.seat;
          generator = rest.generator;
          keeps = rest.keeps;
        }
    by (Ok opening) reads others rest-of =
        let led =
        come (head_of (session_of opening [])) opening.number 0 (opened (session_of opening [])) (opened_as opening) l
        lines texts others (opened-sits opening [] (kept opening reads).number) in
        record {
          opening = opening;
          events = led.events;
          say = inr (reads, led.say);
          number = led.sits.numbered;
          head = led.sits.headed;
          seat = led.sits.seat;
          generator = led.sits.generator;
          keeps = keeps-session opening (kept opening reads) whole lines led.events led.say;
        }
