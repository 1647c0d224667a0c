-- What holds of every session that is read.
use Rattle.std.proofs.Common.{ℕ, ◌+◌, List, [], ◌∷◌, drop}
use Rattle.std.specs.List.{AllByRecursion}
use Rattle.session_text.specs.Events.{header}
use Rattle.session_text.specs.Facts.{IsAmong, IsEventWithinLimits, BringsElements, PickMade, IsSession}
use Rattle.session_text.specs.Sessions.{messages_of, EventsLead, IsSessionOf}
use Rattle.session_text.specs.declared.event.Event.{Event}
use Rattle.session_text.specs.declared.session.Session.{Session}
use Rattle.session_text.proofs.RowsOne.{header-kept, event-kept}

-- what holds of events
record AreKept (replicas made : ℕ) (all : List Event) : Type 0 where
  places : AllByRecursion (IsAmong replicas) all
  limits : AllByRecursion IsEventWithinLimits all
  brings : AllByRecursion BringsElements all
  picks : PickMade made all

events-kept : (replicas made : ℕ) (bytes rest : List ℕ) (all : List Event) → EventsLead replicas made bytes all rest
    → AreKept replicas made all
events-kept replicas made bytes rest [] lead = record { places = tt; limits = tt; brings = tt; picks = tt }
events-kept replicas made bytes rest (event ∷ more) (next, (text, stands, says), lead) =
    let first = event-kept replicas made text event says in
    let others = events-kept replicas (made + messages_of event) next rest more lead in
    record {
      places = (first.place, others.places);
      limits = (first.limits, others.limits);
      brings = (first.brings, others.brings);
      picks = (first.picks, others.picks);
    }

pub session-kept : (bytes : List ℕ) (session : Session) → IsSessionOf bytes session → IsSession session
session-kept bytes session is =
    let (text, stands, says) = is.lead.heads in
    let head = header-kept text (header session.replicas session.seed session.scene) says in
    let all = events-kept session.replicas 0 is.lead.first (drop is.end bytes) session.events is.lead.lead in
    record {
      some = head.some;
      most = head.most;
      seed = head.seed;
      keys = head.scene.keys;
      elements = head.scene.elements;
      few = is.lead.few;
      places = all.places;
      limits = all.limits;
      brings = all.brings;
      picks = all.picks;
    }
