-- A session with its header alone is one, and so is one with one event more.
use Rattle.std.proofs.Common.{ℕ, ◌+◌, ◌<◌, List, [], ◌∷◌, ◌++◌, Ok, length, arith, length-append}
use Rattle.std.specs.List.{AllByRecursion}
use Rattle.session_text.specs.Events.{HeaderText, EventText}
use Rattle.session_text.specs.Facts.{IsAmong, IsEventWithinLimits, BringsElements, PicksMade, PickMade, IsSession}
use Rattle.session_text.specs.Sessions.{most_events, messages_of, made_after}
use Rattle.session_text.specs.Taken.{with_event}
use Rattle.session_text.specs.declared.event.Event.{Event}
use Rattle.session_text.specs.declared.header.Header.{Header}
use Rattle.session_text.specs.declared.session.Session.{Session}
use Rattle.session_text.proofs.RowsOne.{header-kept, event-kept}

all-more : (P : Event → Type 0) (events : List Event) (event : Event) → AllByRecursion P events → P event
    → AllByRecursion P (events ++ event ∷ [])
all-more P [] event all is = (is, tt)
all-more P (first ∷ events) event (one, all) is = (one, all-more P events event all is)

picks-more : (made : ℕ) (events : List Event) (event : Event) → PickMade made events
    → PicksMade (made_after made events) event → PickMade made (events ++ event ∷ [])
picks-more made [] event all is = (is, tt)
picks-more made (first ∷ events) event (one, all) is = (one, picks-more (made + messages_of first) events event all is)

pub session-begun : (text : List ℕ) (head : Header) → HeaderText text (Ok head)
    → IsSession (record { replicas = head.replicas; seed = head.seed; scene = head.scene; events = [] })
session-begun text head says =
    let kept = header-kept text head says in
    record {
      some = kept.some;
      most = kept.most;
      seed = kept.seed;
      keys = kept.scene.keys;
      elements = kept.scene.elements;
      few = omega arith;
      places = tt;
      limits = tt;
      brings = tt;
      picks = tt;
    }

pub session-more : (session : Session) (text : List ℕ) (event : Event) → IsSession session
    → length session.events < most_events
    → EventText session.replicas (made_after 0 session.events) text (Ok event) → IsSession (with_event session event)
session-more session text event is fewer says =
    let kept = event-kept session.replicas (made_after 0 session.events) text event says in
    record {
      some = is.some;
      most = is.most;
      seed = is.seed;
      keys = is.keys;
      elements = is.elements;
      few = omega (arith, fewer, length-append session.events (event ∷ []));
      places = all-more (IsAmong session.replicas) session.events event is.places kept.place;
      limits = all-more IsEventWithinLimits session.events event is.limits kept.limits;
      brings = all-more BringsElements session.events event is.brings kept.brings;
      picks = picks-more 0 session.events event is.picks kept.picks;
    }
