-- What is kept of a session so far while its texts are taken.
use Rattle.std.proofs.Common.{◌≡◌, ℕ, ◌+◌, ◌≤◌, List, [], ◌∷◌, ◌++◌, false, Option, Some, None, Result, Ok, Err, OnOk, OnErr, length, sym, ap, subst, ◌∙◌, arith}
use Rattle.board_base.specs.declared.stop.Stop.{Stop}
use Rattle.session_text.specs.Events.{HeaderText, EventText}
use Rattle.session_text.specs.Facts.{IsSession}
use Rattle.session_text.specs.Sessions.{most_events, messages_of, made_after}
use Rattle.session_text.specs.Taken.{TakesText, IsNextFault, is_full, session_so_far, IsFeed}
use Rattle.session_text.specs.declared.event.Event.{Event}
use Rattle.session_text.specs.declared.event.Event.TheVariants.{Change, Update, Deliver, Hold, Release, Undo, Redo}
use Rattle.session_text.specs.declared.fault.TextFault.{TextFault}
use Rattle.session_text.specs.declared.header.Header.{Header}
use Rattle.session_text.specs.declared.session.Session.{Session}
use Rattle.session_text.proofs.Behind.{fewer-events}
use Rattle.session_text.proofs.SessionsMore.{session-begun, session-more}
use Rattle.session_text.proofs.SessionsOne.{made-more}

messages-few : (event : Event) → messages_of event ≤ 1
messages-few (Change at time capture command) = omega arith
messages-few (Update elements) = omega arith
messages-few (Deliver to picks) = omega arith
messages-few (Hold at id) = omega arith
messages-few (Release at id) = omega arith
messages-few (Undo at time) = omega arith
messages-few (Redo at time) = omega arith

made-few : (made : ℕ) (events : List Event) → made_after made events ≤ made + length events
made-few made [] = omega arith
made-few made (event ∷ events) = omega (arith, messages-few event, made-few (made + messages_of event) events)

-- no more messages were made than there may be events
pub feed-few : (head : Option Header) (events : List Event) (made : ℕ) → IsFeed head events made → made ≤ most_events
feed-few None events made is = omega (arith, is.counted, made-few 0 events, ap length is.begun)
feed-few (Some head) events made is = omega (arith, is.counted, made-few 0 events, is.kept.few)

-- the header is taken
pub feed-begun : (found : Option Header) (head : Header) (events : List Event) (made : ℕ) (text : List ℕ) → found ≡ None
    → IsFeed found events made → HeaderText text (Ok head)
    → IsFeed (Some head) events made
feed-begun found head events made text there is says =
    let none : events ≡ [] = (subst (λ f. IsFeed f events made) there is).begun in
    record {
      kept =
          subst (λ es. IsSession (record {
            replicas = head.replicas;
            seed = head.seed;
            scene = head.scene;
            events =
                es;
          })) (sym none) (session-begun text head says);
      counted = is.counted;
      begun = tt;
    }

-- an event is taken
feed-more : (head : Header) (events : List Event) (made : ℕ) (text : List ℕ) (event : Event)
    → IsFeed (Some head) events made → is_full (session_so_far (Some head) events) ≡ false
    → EventText head.replicas made text (Ok event)
    → IsFeed (Some head) (events ++ event ∷ []) (made + messages_of event)
feed-more head events made text event is room says =
    let session : Session =
    record { replicas = head.replicas; seed = head.seed; scene = head.scene; events = events } in
    record {
      kept = session-more session text event is.kept (fewer-events session is.kept.few room)
          (subst (λ n. EventText head.replicas n text (Ok event)) is.counted says);
      counted = ap (λ n. n + messages_of event) is.counted ∙ sym (made-more 0 events event);
      begun = tt;
    }

-- an event is taken, or nothing
pub feed-after : {A : Type 0} (result : Result A (Stop TextFault)) (found : Option Header) (head : Header)
    (events next : List Event) (made now : ℕ) (text : List ℕ)
    → found ≡ Some head → IsFeed found events made → is_full (session_so_far found events) ≡ false
    → OnOk result ((event : Event) × EventText head.replicas made text (Ok event) × (next ≡ events ++ event ∷ [])
    × (now ≡ made + messages_of event))
    → OnErr result (next ≡ events) → OnErr result (now ≡ made) → IsFeed found next now
feed-after (Ok x) found head events next made now text there is room (event, says, more, counted) same also =
    let taken = feed-more head events made text event (subst (λ f. IsFeed f events made) there is)
    (subst (λ f. is_full (session_so_far f events) ≡ false) there room) says in
    subst (λ f. IsFeed f next now) (sym there)
    (subst (λ es. IsFeed (Some head) es now) (sym more)
    (subst (λ n. IsFeed (Some head) (events ++ event ∷ []) n) (sym counted) taken))
feed-after (Err stop) found head events next made now text there is room taken same also =
    subst (λ es. IsFeed found es now) (sym same) (subst (λ n. IsFeed found events n) (sym also) is)

-- ---- what is taken
-- With no header nothing was taken, and this text is that of the header.
pub takes-header : (found : Option Header) (head : Header) (events : List Event) (made : ℕ) (text : List ℕ)
    (state : Option Session) → session_so_far found events ≡ state → found ≡ None
    → IsFeed found events made → HeaderText text (Ok head) → TakesText state text (session_so_far (Some head) events)
takes-header found head events made text state same there is says =
    let none : events ≡ [] = (subst (λ f. IsFeed f events made) there is).begun in
    subst (λ s. TakesText s text (session_so_far (Some head) events)) (ap (λ f. session_so_far f events) (sym there)
    ∙ same) (says, none)

-- this text is that of an event, or nothing is taken
pub takes-event : {A : Type 0} (result : Result A (Stop TextFault)) (found : Option Header) (head : Header)
    (events next : List Event) (made now : ℕ) (text : List ℕ) (state : Option Session)
    → session_so_far found events ≡ state → found ≡ Some head → IsFeed found events made
    → OnOk result ((event : Event) × EventText head.replicas made text (Ok event) × (next ≡ events ++ event ∷ [])
    × (now ≡ made + messages_of event))
    → OnOk result (TakesText state text (session_so_far found next))
takes-event (Ok x) found head events next made now text state same there is (event, says, more, counted) =
    let session : Session =
    record { replicas = head.replicas; seed = head.seed; scene = head.scene; events = events } in
    let taken : TakesText (Some session) text (session_so_far (Some head) next) = (
      event,
      subst (λ n. EventText head.replicas n text (Ok event)) is.counted says,
      ap (λ es. record session { events = es }) more,
    ) in
    subst (λ f. TakesText state text (session_so_far f next)) (sym there)
    (subst (λ s. TakesText s text (session_so_far (Some head) next)) (ap (λ f. session_so_far f events) (sym there)
    ∙ same) taken)
takes-event (Err stop) found head events next made now text state same there is taken = tt

-- the text of the next event has this fault
pub faulty-event : (found : Option Header) (head : Header) (events : List Event) (made : ℕ) (text : List ℕ)
    (state : Option Session) (fault : TextFault) → session_so_far found events ≡ state
    → found ≡ Some head → IsFeed found events made → EventText head.replicas made text (Err fault)
    → IsNextFault state text fault
faulty-event found head events made text state fault same there is says =
    subst (λ s. IsNextFault s text fault) (ap (λ f. session_so_far f events) (sym there)
    ∙ same) (subst (λ n. EventText head.replicas n text (Err fault)) is.counted says)
