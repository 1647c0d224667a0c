-- What stands behind an offset: white space alone, an event with a fault, or too many events.
use Rattle.std.proofs.Common.{◌≡◌, ◌⊎◌, inl, inr, ℕ, ◌+◌, ◌==◌, ◌≤◌, ◌<◌, List, Bool, true, false, Option, None, Some, IfSome, is_none, length, drop, refl, sym, ap, subst, arith, length-drop}
use Rattle.std.specs.List.{prefix_len}
use Rattle.std.proofs.lemmas.Bool.{false≢true}
use Rattle.std.proofs.lemmas.Bool.Decides.{nat_tests}
use Rattle.json_text.specs.Characters.{is_blank, is_space}
use Rattle.json_text.specs.Value.{Stands}
use Rattle.json_text.proofs.CallerLemmas.{run-blank, run-more}
use Rattle.json_reader.specs.Faults.{IsFirstFault}
use Rattle.json_reader.specs.declared.fault.JsonFault.{JsonFault}
use Rattle.session_text.specs.Events.{HeaderText, EventText, header}
use Rattle.session_text.specs.Sessions.{most_events, IsTextFaultAt, made_after, EventsLead, LeadTo, IsSessionOf, IsSessionFault}
use Rattle.session_text.specs.Taken.{TakesText, IsNextFault, is_full, texts_in}
use Rattle.session_text.specs.inner.Taken.{LeadsUpTo}
use Rattle.session_text.specs.declared.fault.TextFault.{TextFault}
use Rattle.session_text.specs.declared.fault.TextFault.TheVariants.{Json}
use Rattle.session_text.specs.declared.fault.SessionFault.TheVariants.{In, TooMany}
use Rattle.session_text.specs.declared.session.Session.{Session}
use Rattle.session_text.proofs.SessionsOne.{leads-more}

-- ---- white space

pub blank-at : (bytes : List ℕ) (at : ℕ) → at ≤ length bytes → length bytes ≤ at + prefix_len is_space (drop at bytes)
    → is_blank (drop at bytes) ≡ true
blank-at bytes at within ends = run-blank (drop at bytes) (omega (arith, length-drop at bytes))

pub more-at : (bytes : List ℕ) (at : ℕ) → at ≤ length bytes → at + prefix_len is_space (drop at bytes) < length bytes
    → is_blank (drop at bytes) ≡ false
more-at bytes at within ends = run-more (drop at bytes) (omega (arith, length-drop at bytes))

-- ---- the session so far
pub fewer-events : (session : Session) → length session.events ≤ most_events → is_full (Some session) ≡ false
    → length session.events < most_events
fewer-events session few room = fewer (length session.events) most_events few room
  where
    fewer : (n most : ℕ) → n ≤ most → (n == most) ≡ false → n < most
    fewer n most few e = grind (arith, nat_tests)

-- A text that stands at the offset and is taken leads up to the offset after it.
pub leads-next : (bytes text : List ℕ) (before after : Option Session) (at end : ℕ) → LeadsUpTo bytes before at
    → is_full before ≡ false → Stands (drop at bytes) text (drop end bytes)
    → end ≤ length bytes → TakesText before text after → LeadsUpTo bytes after end
leads-next bytes text None None at end front room stands within takes = absurd takes
leads-next bytes text None (Some session) at end front room stands within (says, none) = record {
  first = drop end bytes;
  heads = (text, subst (λ n. Stands (drop n bytes) text (drop end bytes)) front stands, says);
  lead = subst (λ events. EventsLead session.replicas 0 (drop end bytes) events (drop end bytes)) (sym none) refl;
  few = omega (arith, ap length none);
  within = within;
}
leads-next bytes text (Some before) None at end lead room stands within takes = absurd takes
leads-next bytes text (Some before) (Some session) at end lead room stands within (event, says, same) =
    subst (λ (s : Session). LeadTo bytes (header s.replicas s.seed s.scene) s.events end) (sym same)
    (leads-more bytes (header before.replicas before.seed before.scene) before.events at end event lead
    (fewer-events before lead.few room) (text, stands, says) within)

-- The texts of the session so far, that of the header among them, lead up to the offset.
pub record IsReadTo (bytes : List ℕ) (state : Option Session) (at : ℕ) : Type 0 where
  pub within : at ≤ length bytes
  pub leads : LeadsUpTo bytes state at
  pub begun : is_none state ≡ false

pub session-read : (bytes : List ℕ) (state : Option Session) (at : ℕ) → LeadsUpTo bytes state at
    → is_blank (drop at bytes) ≡ true → IfSome state (IsSessionOf bytes)
session-read bytes None at lead space = tt
session-read bytes (Some session) at lead space = record { end = at; lead = lead; space = space }

-- ---- faults
pub too-many : (bytes : List ℕ) (state : Option Session) (at : ℕ) → LeadsUpTo bytes state at → is_full state ≡ true
    → is_blank (drop at bytes) ≡ false → IsSessionFault bytes TooMany
too-many bytes None at lead full more = absurd (false≢true full)
too-many bytes (Some session) at lead full more =
    record {
      head = header session.replicas session.seed session.scene;
      events = session.events;
      end = at;
      lead = lead;
      full = all (length session.events) most_events full;
      more = more;
    }
  where
    all : (n most : ℕ) → (n == most) ≡ true → n ≡ most
    all n most e = grind (arith, nat_tests)

pub begun-at : (more : Bool) → (false ≡ true) ⊎ (more ≡ false) → more ≡ false
begun-at more (inl never) = absurd (false≢true never)
begun-at more (inr is) = is

-- The text of the header, or of the next event, has this first fault behind the offset.
abbrev IsNextFaultAt : List ℕ → ℕ → Option Session → TextFault → Type 0
IsNextFaultAt bytes at None fault = IsTextFaultAt HeaderText bytes at fault
IsNextFaultAt bytes at (Some session) fault =
    IsTextFaultAt (EventText session.replicas (made_after 0 session.events)) bytes at fault

next-faulty : (bytes : List ℕ) (state : Option Session) (at : ℕ) (fault : TextFault) → LeadsUpTo bytes state at
    → (is_none state ≡ true) ⊎ (is_blank (drop at bytes) ≡ false)
    → is_full state ≡ false → IsNextFaultAt bytes at state fault → IsSessionFault bytes (In (texts_in state + 1) fault)
next-faulty bytes None at fault front more room is =
    inl (refl, subst (λ n. IsTextFaultAt HeaderText bytes n fault) front is)
next-faulty bytes (Some session) at fault lead more room is = inr (record {
  head = header session.replicas session.seed session.scene;
  events = session.events;
  start = at;
  lead = lead;
  more = begun-at (is_blank (drop at bytes)) more;
  fewer = fewer-events session lead.few room;
  counted = omega arith;
  faulty = is;
})

-- no value stands behind the offset
pub next-missing : (bytes : List ℕ) (state : Option Session) (at : ℕ) (found : JsonFault) → LeadsUpTo bytes state at
    → (is_none state ≡ true) ⊎ (is_blank (drop at bytes) ≡ false)
    → is_full state ≡ false → IsFirstFault bytes at found → IsSessionFault bytes (In (texts_in state + 1) (Json found))
next-missing bytes state at found lead more room first =
    next-faulty bytes state at (Json found) lead more room (by state)
  where
    by : (state : Option Session) → IsNextFaultAt bytes at state (Json found)
    by None = inl (found, refl, first)
    by (Some session) = inl (found, refl, first)

-- the text behind the offset is refused
pub next-refused : (bytes text rest : List ℕ) (state : Option Session) (at : ℕ) (fault : TextFault)
    → LeadsUpTo bytes state at → (is_none state ≡ true) ⊎ (is_blank (drop at bytes) ≡ false)
    → is_full state ≡ false → Stands (drop at bytes) text rest → IsNextFault state text fault
    → IsSessionFault bytes (In (texts_in state + 1) fault)
next-refused bytes text rest state at fault lead more room stands is =
    next-faulty bytes state at fault lead more room (by state is)
  where
    by : (state : Option Session) → IsNextFault state text fault → IsNextFaultAt bytes at state fault
    by None is = inr (text, rest, stands, is)
    by (Some session) is = inr (text, rest, stands, is)
