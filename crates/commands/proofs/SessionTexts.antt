-- The texts that a reader of a session has read, and what stops it.
use Rattle.std.proofs.Common.{◌≡◌, inl, inr, ℕ, ◌+◌, ◌<◌, ◌≤◌, ◌==◌, List, [], ◌∷◌, ◌++◌, true, false, refl, sym, ap, subst, length, drop, arith, length-append, length-drop, Ok, Option, None, Some}
use Rattle.std.specs.Prelude.{is_none}
use Rattle.std.proofs.lemmas.Bool.{false≢true}
use Rattle.std.proofs.lemmas.Bool.Decides.{nat_tests}
use Rattle.json_text.specs.Characters.{is_blank}
use Rattle.json_text.specs.Value.{Stands}
use Rattle.json_reader.specs.Faults.{IsFirstFault}
use Rattle.input_texts.specs.Texts.{TextsLead, HasTexts, IsStopped}
use Rattle.input_texts.specs.declared.reading.Stopped.{Stopped}
use Rattle.input_texts.specs.declared.reading.Stopped.TheVariants.{Faulty, Refused, Extra}
use Rattle.session_text.specs.Events.{EventText, header}
use Rattle.session_text.specs.Sessions.{most_events, messages_of, made_after, EventsLead, LeadTo, IsSessionOf}
use Rattle.session_text.specs.Taken.{TakesText, is_full, texts_in}
use Rattle.session_text.specs.declared.event.Event.{Event}
use Rattle.session_text.specs.declared.fault.SessionFault.TheVariants.{In, TooMany}
use Rattle.session_text.specs.declared.fault.TextFault.{TextFault}
use Rattle.session_text.specs.declared.fault.TextFault.TheVariants.{Json}
use Rattle.session_text.specs.declared.session.Session.{Session}
use Rattle.session_text.proofs.CallerLemmas.{begun-at}
use Rattle.commands.specs.Answers.{IsSessionRefusal}
use Rattle.commands.specs.inner.SessionTexts.{SayEvents, SaySession, session_seen, session_refusal_of}

events-lead : (replicas made : ℕ) (bytes rest : List ℕ) (texts : List (List ℕ)) (events : List Event)
    → SayEvents replicas made texts events → TextsLead bytes texts rest → EventsLead replicas made bytes events rest
events-lead replicas made bytes rest [] [] say lead = lead
events-lead replicas made bytes rest [] (event ∷ events) say lead = absurd say
events-lead replicas made bytes rest (text ∷ texts) [] say lead = absurd say
events-lead replicas made bytes rest (text ∷ texts) (event ∷ events) (is, say) (next, stands, lead) =
    (next, (text, stands, is), events-lead replicas (made + messages_of event) next rest texts events say lead)

lead-to : (bytes : List ℕ) (session : Session) (texts : List (List ℕ)) (start : ℕ) → SaySession texts (Some session)
    → start ≤ length bytes → TextsLead bytes texts (drop start bytes)
    → LeadTo bytes (header session.replicas session.seed session.scene) session.events start
lead-to bytes session [] start say within lead = absurd say
lead-to bytes session (text ∷ texts) start (is, say, few) within (next, stands, lead) = record {
  first = next;
  heads = (text, stands, is);
  lead = events-lead session.replicas 0 next (drop start bytes) texts session.events say lead;
  few = few;
  within = within;
}

-- behind no text the offset is the first
at-front : (bytes : List ℕ) (texts : List (List ℕ)) (start : ℕ) → SaySession texts None → start ≤ length bytes
    → TextsLead bytes texts (drop start bytes) → start ≡ 0
at-front bytes [] start say within lead = omega (arith, within, ap length lead, length-drop start bytes)
at-front bytes (text ∷ texts) start say within lead = absurd say

fewer-events : (n most : ℕ) → n ≤ most → (n == most) ≡ false → n < most
fewer-events n most few e = grind (arith, nat_tests)

all-events : (n most : ℕ) → (n == most) ≡ true → n ≡ most
all-events n most e = grind (arith, nat_tests)

-- ---- one text more
pub events-more : (replicas made : ℕ) (texts : List (List ℕ)) (events : List Event) (text : List ℕ) (event : Event)
    → SayEvents replicas made texts events
    → EventText replicas (made_after made events) text (Ok event)
    → SayEvents replicas made (texts ++ text ∷ []) (events ++ event ∷ [])
events-more replicas made [] [] text event say is = (is, tt)
events-more replicas made [] (one ∷ events) text event say is = absurd say
events-more replicas made (first ∷ texts) [] text event say is = absurd say
events-more replicas made (first ∷ texts) (one ∷ events) text event (says, say) is =
    (says, events-more replicas (made + messages_of one) texts events text event say is)

pub say-taken : (texts : List (List ℕ)) (before : Option Session) (text : List ℕ) (after : Option Session)
    → SaySession texts before → is_full before ≡ false
    → TakesText before text after → SaySession (texts ++ text ∷ []) after
say-taken [] None text None say room takes = absurd takes
say-taken [] None text (Some session) say room (heads, none) =
    (heads, subst (SayEvents session.replicas 0 []) (sym none) tt, omega (arith, ap length none))
say-taken (first ∷ texts) None text after say room takes = absurd say
say-taken [] (Some before) text after say room takes = absurd say
say-taken (first ∷ texts) (Some before) text None say room takes = absurd takes
say-taken (first ∷ texts) (Some before) text (Some session) (heads, say, few) room (event, is, same) =
    subst (λ (after : Session). SaySession (first ∷ (texts ++ text ∷ [])) (Some after)) (sym same) (
      heads,
      events-more before.replicas 0 texts before.events text event say is,
      omega (arith, length-append before.events (event ∷ []), fewer-events (length before.events) most_events few room),
    )

pub taken-some : (before : Option Session) (text : List ℕ) (after : Option Session) → TakesText before text after
    → is_none after ≡ false
taken-some None text None takes = absurd takes
taken-some (Some before) text None takes = absurd takes
taken-some before text (Some session) takes = refl

-- ---- what stopped the reader, or nothing did
pub session-read : (bytes : List ℕ) (session : Session) → HasTexts bytes (session_seen (Some session))
    → IsSessionOf bytes session
session-read bytes session h = record {
  end = h.start;
  lead =
      lead-to bytes session h.texts h.start h.behind.read h.behind.within h.behind.lead;
  space = h.space;
}

pub session-refused : (bytes : List ℕ) (state : Option Session) (stopped : Stopped TextFault)
    → IsStopped bytes (session_seen state) stopped
    → IsSessionRefusal bytes (session_refusal_of (texts_in state + 1) stopped)
session-refused bytes None (Faulty fault) h =
    let front = at-front bytes h.texts h.start h.behind.read h.behind.within h.behind.lead in
    (In 1 (Json fault), refl, inl (refl, inl (fault, refl, subst (λ at. IsFirstFault bytes at fault) front h.faulty)))
session-refused bytes (Some session) (Faulty fault) h =
    let lead = lead-to bytes session h.texts h.start h.behind.read h.behind.within h.behind.lead in (
      In (texts_in (Some session) + 1) (Json fault),
      refl,
      inr (record {
        head = header session.replicas session.seed session.scene;
        events = session.events;
        start = h.start;
        lead = lead;
        more = begun-at (is_blank (drop h.start bytes)) h.begun;
        fewer = fewer-events (length session.events) most_events lead.few h.takes;
        counted = omega arith;
        faulty = inl (fault, refl, h.faulty);
      }),
    )
session-refused bytes None (Refused fault) h =
    let front = at-front bytes h.texts h.start h.refused.0 h.within h.lead in (
      In 1 fault,
      refl,
      inl (
        refl,
        inr (
          h.text,
          h.rest,
          subst (λ at. Stands (drop at bytes) h.text h.rest) front h.stands,
          h.refused.2,
        ),
      ),
    )
session-refused bytes (Some session) (Refused fault) h =
    let lead = lead-to bytes session h.texts h.start h.refused.0 h.within h.lead in (
      In (texts_in (Some session) + 1) fault,
      refl,
      inr (record {
        head = header session.replicas session.seed session.scene;
        events = session.events;
        start = h.start;
        lead = lead;
        more = h.begun;
        fewer = fewer-events (length session.events) most_events lead.few h.refused.1;
        counted = omega arith;
        faulty = inr (h.text, h.rest, h.stands, h.refused.2);
      }),
    )
session-refused bytes None (Extra place) h = absurd (false≢true h.full)
session-refused bytes (Some session) (Extra place) h =
    let lead = lead-to bytes session h.texts h.start h.behind.read h.behind.within h.behind.lead in (
      TooMany,
      refl,
      record {
        head = header session.replicas session.seed session.scene;
        events = session.events;
        end =
            h.start;
        lead = lead;
        full = all-events (length session.events) most_events h.full;
        more = h.begun;
      },
    )
