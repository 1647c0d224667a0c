-- Bytes are one session, or have one first fault, and not both.
use Rattle.std.proofs.Common.{◌≡◌, ◌⊎◌, inl, inr, ℕ, zero, suc, ◌+◌, ◌≤◌, ◌<◌, List, [], ◌∷◌, ◌++◌, true, false, Result, Ok, Err, length, drop, refl, sym, ap, ap₂, subst, ◌∙◌, arith, length-append}
use Rattle.std.proofs.lemmas.Bool.{cases_Bool, cases_lt, both_ways}
use Rattle.json_text.specs.Characters.{is_blank}
use Rattle.json_text.specs.Value.{IsCompact, Stands}
use Rattle.json_text.proofs.CallerLemmas.{Value-compact, Stands-once, drop-once}
use Rattle.json_reader.proofs.CallerLemmas.{value-or-fault}
use Rattle.json_reader.proofs.CallerLemmas as json
use Rattle.scene_file.proofs.CallerLemmas.{Stands-no_blank, Stands-behind}
use Rattle.session_text.specs.Events.{HeaderText, EventText, header}
use Rattle.session_text.specs.Sessions.{most_events, StandsAs, IsTextFaultAt, messages_of, made_after, EventsLead, LeadTo, IsSessionOf, HasFaultyEvent, HasTooMany, IsSessionFault}
use Rattle.session_text.specs.declared.event.Event.{Event}
use Rattle.session_text.specs.declared.fault.TextFault.{TextFault}
use Rattle.session_text.specs.declared.fault.TextFault.TheVariants.{Json}
use Rattle.session_text.specs.declared.fault.SessionFault.{SessionFault}
use Rattle.session_text.specs.declared.fault.SessionFault.TheVariants.{In, TooMany}
use Rattle.session_text.specs.declared.header.Header.{Header}
use Rattle.session_text.specs.declared.session.Session.{Session}
use Rattle.session_text.proofs.Readings.{IsOne, given-same, refused-same, apart}
use Rattle.session_text.proofs.RowsOne.{header_text-one, event_text-one}

-- ---- one text
-- each compact text is read in one way
abbrev AreOne : {A : Type 0} → (List ℕ → Result A TextFault → Type 0) → Type 0
AreOne Says = (text : List ℕ) → IsCompact 128 text → IsOne (Says text)

stands-once : {A : Type 0} (Says : List ℕ → Result A TextFault → Type 0) → AreOne Says
    → (bytes : List ℕ) (x y : A) (rest next : List ℕ)
    → StandsAs Says bytes x rest → StandsAs Says bytes y next → (x ≡ y) × (rest ≡ next)
stands-once Says ones bytes x y rest next (text, stands, is) (other, also, says) =
    let both = Stands-once also stands in (
      given-same ((ones text (Value-compact stands.reads)).once (Ok x) (Ok y) is
          (subst (λ t. Says t (Ok y)) both.0 says)),
      sym both.1,
    )

fault-alike : {A : Type 0} (Says : List ℕ → Result A TextFault → Type 0) → AreOne Says
    → (bytes : List ℕ) (at : ℕ) (f g : TextFault)
    → IsTextFaultAt Says bytes at f → IsTextFaultAt Says bytes at g → f ≡ g
fault-alike Says ones bytes at f g (inl (found, e, first)) (inl (why, e', also)) =
    e ∙ (ap Json (json.fault-once bytes at found why first.first also.first) ∙ sym e')
fault-alike Says ones bytes at f g (inl (found, e, first)) (inr (text, rest, stands, is)) =
    absurd (first.faulty text rest stands)
fault-alike Says ones bytes at f g (inr (text, rest, stands, is)) (inl (found, e, first)) =
    absurd (first.faulty text rest stands)
fault-alike {A = A} Says ones bytes at f g (inr (text, rest, stands, is)) (inr (other, next, also, says)) =
    let both = Stands-once also stands in
    refused-same A f g ((ones text (Value-compact stands.reads)).once (Err f) (Err g) is
    (subst (λ t. Says t (Err g)) both.0 says))

fault-apart : {A : Type 0} (Says : List ℕ → Result A TextFault → Type 0) → AreOne Says
    → (bytes : List ℕ) (at : ℕ) (f : TextFault) (x : A) (rest : List ℕ)
    → IsTextFaultAt Says bytes at f → StandsAs Says (drop at bytes) x rest → ⊥
fault-apart Says ones bytes at f x rest (inl (found, e, first)) (text, stands, is) = first.faulty text rest stands
fault-apart Says ones bytes at f x rest (inr (text, next, stands, is)) (other, also, says) =
    let both = Stands-once also stands in
    apart x f ((ones text (Value-compact stands.reads)).once (Ok x) (Err f) (subst (λ t. Says t (Ok x)) both.0 says)
    is)

-- a text that is read ends within the bytes
record TextAt {A : Type 0} (Says : List ℕ → Result A TextFault → Type 0) (bytes : List ℕ) (at : ℕ) (x : A)
    (end : ℕ) :
    Type 0 where
  behind : at < end
  within : end ≤ length bytes
  stands : StandsAs Says (drop at bytes) x (drop end bytes)

text-or-fault : {A : Type 0} (Says : List ℕ → Result A TextFault → Type 0) → AreOne Says → (bytes : List ℕ) (at : ℕ)
    → at ≤ length bytes
    → ((x : A) × (end : ℕ) × TextAt Says bytes at x end) ⊎ ((fault : TextFault) × IsTextFaultAt Says bytes at fault)
text-or-fault {A = A} Says ones bytes at within = elim (value-or-fault bytes at within) [
  | inr (found, first) ↦ inr (Json found, inl (found, refl, first))
  | inl (text, end, small, stands) ↦ by text end small stands (ones text (Value-compact stands.reads)).some.0
      (ones text (Value-compact stands.reads)).some.1
]
  where
    by : (text : List ℕ) (end : ℕ) → end ≤ length bytes → Stands (drop at bytes) text (drop end bytes)
        → (answer : Result A TextFault) → Says text answer
        → ((x : A) × (end : ℕ) × TextAt Says bytes at x end)
        ⊎ ((fault : TextFault) × IsTextFaultAt Says bytes at fault)
    by text end small stands (Ok x) is =
        inl (
          x,
          end,
          record {
            behind = Stands-behind bytes text at end small stands;
            within = small;
            stands =
                (text, stands, is);
          },
        )
    by text end small stands (Err fault) is = inr (fault, inr (text, drop end bytes, stands, is))

-- ---- the events
-- no event stands at the front
abbrev HasNoEvent : ℕ → ℕ → List ℕ → Type 0
HasNoEvent replicas made bytes =
    (event : Event) (rest : List ℕ) → StandsAs (EventText replicas made) bytes event rest → ⊥

blank-none : (replicas made : ℕ) (bytes : List ℕ) → is_blank bytes ≡ true → HasNoEvent replicas made bytes
blank-none replicas made bytes blank event rest (text, stands, is) = Stands-no_blank bytes text rest stands blank

faulty-none : (replicas made : ℕ) (bytes : List ℕ) (at : ℕ) (fault : TextFault)
    → IsTextFaultAt (EventText replicas made) bytes at fault → HasNoEvent replicas made (drop at bytes)
faulty-none replicas made bytes at fault is event rest stands =
    fault-apart (EventText replicas made) (event_text-one replicas made) bytes at fault event rest is stands

-- so many events may still come, and no more do, or none stands there
abbrev IsLast : ℕ → ℕ → ℕ → List Event → List ℕ → Type 0
IsLast most replicas made events rest = (length events ≡ most) ⊎ HasNoEvent replicas (made_after made events) rest

-- Events behind which none may stand, or none stands, are determined, and so is what follows them.
events-once : (most replicas made : ℕ) (bytes rest end : List ℕ) (es ds : List Event)
    → EventsLead replicas made bytes es rest → EventsLead replicas made bytes ds end
    → length es ≤ most → length ds ≤ most → IsLast most replicas made es rest → IsLast most replicas made ds end
    → (es ≡ ds) × (rest ≡ end)
events-once most replicas made bytes rest end [] [] lead also few fewer last done = (refl, sym lead ∙ also)
events-once most replicas made bytes rest end [] (d ∷ ds) lead (next, stands, more) few fewer (inl full) done =
    absurd (omega (arith, full, fewer))
events-once most replicas made bytes rest end [] (d ∷ ds) lead (next, stands, more) few fewer (inr none) done =
    absurd (subst (HasNoEvent replicas made) (sym lead) none d next stands)
events-once most replicas made bytes rest end (e ∷ es) [] (next, stands, more) lead few fewer last (inl full) =
    absurd (omega (arith, full, few))
events-once most replicas made bytes rest end (e ∷ es) [] (next, stands, more) lead few fewer last (inr none) =
    absurd (subst (HasNoEvent replicas made) (sym lead) none e next stands)
events-once zero replicas made bytes rest end (e ∷ es) (d ∷ ds) lead also few fewer last done =
    absurd (omega (arith, few))
events-once (suc most) replicas made bytes rest end (e ∷ es) (d ∷ ds) (next, stands, more) (
  next',
  stands',
  more',
) few fewer last done =
    let same =
    stands-once (EventText replicas made) (event_text-one replicas made) bytes d e next' next stands' stands in
    let moved : EventsLead replicas (made + messages_of e) next ds end =
    subst (λ (x : Event). EventsLead replicas (made + messages_of x) next ds end) same.0
    (subst (λ b. EventsLead replicas (made + messages_of d) b ds end) same.1 more') in
    let both = events-once most replicas (made + messages_of e) next rest end es ds more moved (omega (arith, few))
    (omega (arith, fewer))
    (shorter most replicas made e es rest last)
    (subst (λ (x : Event). IsLast most replicas (made + messages_of x) ds end) same.0
    (shorter most replicas made d ds end done)) in
    (ap₂ (λ x xs. x ∷ xs) (sym same.0) both.0, both.1)
  where
    shorter : (most replicas made : ℕ) (e : Event) (es : List Event) (rest : List ℕ)
        → IsLast (suc most) replicas made (e ∷ es) rest → IsLast most replicas (made + messages_of e) es rest
    shorter most replicas made e es rest (inl full) = inl (omega (arith, full))
    shorter most replicas made e es rest (inr none) = inr none

-- ---- the bytes

-- where events end
record Ends (bytes : List ℕ) (head : Header) (events : List Event) (end : ℕ) : Type 0 where
  lead : LeadTo bytes head events end
  last : IsLast most_events head.replicas 0 events (drop end bytes)

ends-once : (bytes : List ℕ) (head other : Header) (es ds : List Event) (end stop : ℕ) → Ends bytes head es end
    → Ends bytes other ds stop
    → (head ≡ other) × (es ≡ ds) × (end ≡ stop)
ends-once bytes head other es ds end stop one two =
    let same = stands-once HeaderText header_text-one bytes other head two.lead.first one.lead.first two.lead.heads
    one.lead.heads in
    let moved : EventsLead head.replicas 0 one.lead.first ds (drop stop bytes) =
    subst (λ (h : Header). EventsLead h.replicas 0 one.lead.first ds (drop stop bytes)) same.0
    (subst (λ b. EventsLead other.replicas 0 b ds (drop stop bytes)) same.1 two.lead.lead) in
    let both = events-once most_events head.replicas 0 one.lead.first (drop end bytes) (drop stop bytes) es ds
    one.lead.lead moved one.lead.few two.lead.few one.last
    (subst (λ (h : Header). IsLast most_events h.replicas 0 ds (drop stop bytes)) same.0 two.last) in
    (sym same.0, both.0, drop-once bytes end stop one.lead.within two.lead.within both.1)

session-ends : (bytes : List ℕ) (session : Session) (is : IsSessionOf bytes session)
    → Ends bytes (header session.replicas session.seed session.scene) session.events is.end
session-ends bytes session is = record {
  lead = is.lead;
  last =
      inr (blank-none session.replicas (made_after 0 session.events) (drop is.end bytes) is.space);
}

faulty-ends : (bytes : List ℕ) (number : ℕ) (fault : TextFault) (is : HasFaultyEvent bytes number fault)
    → Ends bytes is.head is.events is.start
faulty-ends bytes number fault is = record {
  lead = is.lead;
  last =
      inr (faulty-none is.head.replicas (made_after 0 is.events) bytes is.start fault is.faulty);
}

many-ends : (bytes : List ℕ) (is : HasTooMany bytes) → Ends bytes is.head is.events is.end
many-ends bytes is = record { lead = is.lead; last = inl is.full }

headless : (bytes : List ℕ) (fault : TextFault) (head : Header) (events : List Event) (end : ℕ)
    → IsTextFaultAt HeaderText bytes 0 fault → Ends bytes head events end → ⊥
headless bytes fault head events end is ends =
    fault-apart HeaderText header_text-one bytes 0 fault head ends.lead.first is ends.lead.heads

pub session-once : (bytes : List ℕ) (session other : Session) → IsSessionOf bytes session → IsSessionOf bytes other
    → session ≡ other
session-once bytes session other one two =
    let same = ends-once bytes (header session.replicas session.seed session.scene)
    (header other.replicas other.seed other.scene) session.events other.events one.end two.end
    (session-ends bytes session one) (session-ends bytes other two) in
    λ i. record {
      replicas = (same.0 i).replicas;
      seed = (same.0 i).seed;
      scene = (same.0 i).scene;
      events =
          same.1 i;
    }

faulty-once : (bytes : List ℕ) (n m : ℕ) (f g : TextFault) → HasFaultyEvent bytes n f → HasFaultyEvent bytes m g
    → (n ≡ m) × (f ≡ g)
faulty-once bytes n m f g one two =
    let same =
    ends-once bytes one.head two.head one.events two.events one.start two.start (faulty-ends bytes n f one)
    (faulty-ends bytes m g two) in
    let there : IsTextFaultAt (EventText one.head.replicas (made_after 0 one.events)) bytes one.start g =
    subst (λ (h : Header). IsTextFaultAt (EventText h.replicas (made_after 0 one.events)) bytes one.start g)
    (sym same.0)
    (subst (λ es. IsTextFaultAt (EventText two.head.replicas (made_after 0 es)) bytes one.start g) (sym same.1)
    (subst (λ at. IsTextFaultAt (EventText two.head.replicas (made_after 0 two.events)) bytes at g) (sym same.2)
    two.faulty)) in (
      omega (arith, ap length same.1, one.counted, two.counted),
      fault-alike (EventText one.head.replicas (made_after 0 one.events))
          (event_text-one one.head.replicas (made_after 0 one.events)) bytes one.start f g one.faulty there,
    )

faulty-many : (bytes : List ℕ) (n : ℕ) (f : TextFault) → HasFaultyEvent bytes n f → HasTooMany bytes → ⊥
faulty-many bytes n f one two =
    let same = ends-once bytes one.head two.head one.events two.events one.start two.end (faulty-ends bytes n f one)
    (many-ends bytes two) in
    absurd (omega (arith, ap length same.1, one.fewer, two.full))

pub fault-once : (bytes : List ℕ) (fault other : SessionFault) → IsSessionFault bytes fault
    → IsSessionFault bytes other
    → fault ≡ other
fault-once bytes (In n f) (In m g) (inl (e, is)) (inl (e', also)) =
    ap₂ In (e ∙ sym e') (fault-alike HeaderText header_text-one bytes 0 f g is also)
fault-once bytes (In n f) (In m g) (inl (e, is)) (inr two) =
    absurd (headless bytes f two.head two.events two.start is (faulty-ends bytes m g two))
fault-once bytes (In n f) (In m g) (inr one) (inl (e, is)) =
    absurd (headless bytes g one.head one.events one.start is (faulty-ends bytes n f one))
fault-once bytes (In n f) (In m g) (inr one) (inr two) =
    let both = faulty-once bytes n m f g one two in ap₂ In both.0 both.1
fault-once bytes (In n f) TooMany (inl (e, is)) two =
    absurd (headless bytes f two.head two.events two.end is (many-ends bytes two))
fault-once bytes (In n f) TooMany (inr one) two = absurd (faulty-many bytes n f one two)
fault-once bytes TooMany (In m g) one (inl (e, is)) =
    absurd (headless bytes g one.head one.events one.end is (many-ends bytes one))
fault-once bytes TooMany (In m g) one (inr two) = absurd (faulty-many bytes m g two one)
fault-once bytes TooMany TooMany one two = refl

not-blank : (bytes : List ℕ) (at end : ℕ) → is_blank (drop at bytes) ≡ false → is_blank (drop end bytes) ≡ true
    → at ≡ end → ⊥
not-blank bytes at end more space same =
    both_ways (is_blank (drop at bytes)) more (ap (λ n. is_blank (drop n bytes)) same ∙ space)

pub fault-apart-session : (bytes : List ℕ) (session : Session) (fault : SessionFault) → IsSessionOf bytes session
    → IsSessionFault bytes fault → ⊥
fault-apart-session bytes session (In n f) is (inl (e, faulty)) =
    headless bytes f (header session.replicas session.seed session.scene) session.events is.end faulty
    (session-ends bytes session is)
fault-apart-session bytes session (In n f) is (inr faulty) =
    let same = ends-once bytes faulty.head (header session.replicas session.seed session.scene) faulty.events
    session.events faulty.start is.end (faulty-ends bytes n f faulty) (session-ends bytes session is) in
    not-blank bytes faulty.start is.end faulty.more is.space same.2
fault-apart-session bytes session TooMany is many =
    let same =
    ends-once bytes many.head (header session.replicas session.seed session.scene) many.events session.events
    many.end is.end (many-ends bytes many) (session-ends bytes session is) in
    not-blank bytes many.end is.end many.more is.space same.2

-- ---- a session or a first fault
pub made-more : (made : ℕ) (events : List Event) (event : Event)
    → made_after made (events ++ event ∷ []) ≡ made_after made events + messages_of event
made-more made [] event = refl
made-more made (first ∷ events) event = made-more (made + messages_of first) events event

-- An event stands behind events that lead up to it.
pub lead-more : (replicas made : ℕ) (bytes rest next : List ℕ) (events : List Event) (event : Event)
    → EventsLead replicas made bytes events rest
    → StandsAs (EventText replicas (made_after made events)) rest event next
    → EventsLead replicas made bytes (events ++ event ∷ []) next
lead-more replicas made bytes rest next [] event lead stands =
    (next, subst (λ b. StandsAs (EventText replicas made) b event next) (sym lead) stands, refl)
lead-more replicas made bytes rest next (first ∷ events) event (middle, is, lead) stands =
    (middle, is, lead-more replicas (made + messages_of first) middle rest next events event lead stands)

pub leads-more : (bytes : List ℕ) (head : Header) (events : List Event) (at end : ℕ) (event : Event)
    → LeadTo bytes head events at → length events < most_events
    → StandsAs (EventText head.replicas (made_after 0 events)) (drop at bytes) event (drop end bytes)
    → end ≤ length bytes → LeadTo bytes head (events ++ event ∷ []) end
leads-more bytes head events at end event lead fewer stands within = record {
  first = lead.first;
  heads = lead.heads;
  lead = lead-more head.replicas 0 lead.first (drop at bytes) (drop end bytes) events event lead.lead stands;
  few = omega (arith, fewer, length-append events (event ∷ []));
  within = within;
}

abbrev Read : List ℕ → Type 0
Read bytes =
    ((session : Session) × IsSessionOf bytes session) ⊎ ((fault : SessionFault) × IsSessionFault bytes fault)

next-event : (bytes : List ℕ) (head : Header) (events : List Event) (at : ℕ) → LeadTo bytes head events at
    → ((event : Event) (end : ℕ) → at < end → LeadTo bytes head (events ++ event ∷ []) end → Read bytes) → Read bytes
next-event bytes head events at lead onward = elim (cases_Bool (is_blank (drop at bytes))) [
  | inl blank ↦ inl (
    record { replicas = head.replicas; seed = head.seed; scene = head.scene; events = events },
    record { end = at; lead = lead; space = blank },
  )
  | inr more ↦ elim (cases_lt (length events) most_events) [
    | inr full ↦ inr (
      TooMany,
      record {
        head = head;
        events = events;
        end = at;
        lead = lead;
        full =
            omega (arith, full, lead.few);
        more = more;
      },
    )
    | inl fewer ↦ elim (text-or-fault (EventText head.replicas (made_after 0 events))
        (event_text-one head.replicas (made_after 0 events)) bytes at lead.within) [
          | inl (event, end, t) ↦ onward event end t.behind
              (leads-more bytes head events at end event lead fewer t.stands
              t.within)
          | inr (fault, is) ↦ inr (
            In (length events + 2) fault,
            inr (record {
              head = head;
              events = events;
              start = at;
              lead = lead;
              more = more;
              fewer = fewer;
              counted = refl;
              faulty = is;
            }),
          )
        ]
  ]
]

read-from : (left : ℕ) (bytes : List ℕ) (head : Header) (events : List Event) (at : ℕ) → LeadTo bytes head events at
    → length bytes ≤ at + left → Read bytes
read-from zero bytes head events at lead near =
    next-event bytes head events at lead (λ event end behind more. absurd (omega (arith, behind, more.within, near)))
read-from (suc left) bytes head events at lead near =
    next-event bytes head events at lead (λ event end behind more. read-from left bytes head (events ++ event ∷ [])
    end
    more (omega (arith, behind, near)))

pub session-or-fault : (bytes : List ℕ) → Read bytes
session-or-fault bytes = elim (text-or-fault HeaderText header_text-one bytes 0 (omega arith)) [
  | inr (fault, is) ↦ inr (In 1 fault, inl (refl, is))
  | inl (head, end, t) ↦
      read-from (length bytes) bytes head [] end
      (record { first = drop end bytes; heads = t.stands; lead = refl; few = omega arith; within = t.within })
      (omega (arith))
]
