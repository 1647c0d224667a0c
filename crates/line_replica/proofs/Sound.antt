-- What holds of every replica of a session holds of a living one, as long as there are not too many lines.
use Rattle.std.proofs.Common.{◌≡◌, ◌<◌, ◌≤◌, ◌+◌, inl, inr, ℕ, List, [], ◌∷◌, length, Contains, Some, None, Result, Ok, Err, sym, ap, ◌∙◌, subst, arith, length-append}
use Rattle.std.proofs.lemmas.List.Elements.{Contains-get_or}
use Rattle.room_msg.specs.declared.fault.MsgFault.{MsgFault}
use Rattle.room_msg.specs.declared.message.Message.{Message}
use Rattle.session_text.specs.Facts.{IsSession}
use Rattle.session_text.specs.Lines.{IsReplicaOpening}
use Rattle.session_text.specs.Sessions.{made_after, most_events}
use Rattle.session_text.specs.declared.event.Event.{Event}
use Rattle.session_text.specs.declared.fault.TextFault.{TextFault}
use Rattle.session_text.specs.declared.fault.TextFault.TheVariants.{Json}
use Rattle.session_text.specs.declared.lines.Line.{Line}
use Rattle.session_text.specs.declared.lines.Line.TheVariants as lines
use Rattle.session_text.specs.declared.lines.Opening.{Opening}
use Rattle.session_text.specs.declared.session.Session.{Session}
use Rattle.session_text.proofs.CallerLemmas.{apart, opening-kept}
use Rattle.session.specs.Worlds.{Seat, World, fresh, last_world, opened, seat_at, world_after}
use Rattle.session.proofs.CallerLemmas.{world-last}
use Rattle.session_laws.proofs.CallerLemmas.{events-seats, opened-seats}
use Rattle.line_replica.specs.Living.{Living, session_of}
use Rattle.line_replica.specs.Sessions.{AreEventsOf, AreReadEvents, SayEvents, SaySession, message_events, most_lines}
use Rattle.line_replica.specs.Talks.{AnswersAll, faulty, says}
use Rattle.line_replica.proofs.InSession.{AreWhole, in-session}

-- ---- lines are two events at most
module _ (number : ℕ) where
  message-short : (made : ℕ) (read : Result Message MsgFault) → length (message_events number made read) ≤ 2
  message-short made (Ok message) = omega arith
  message-short made (Err fault) = omega arith

  line-short : (made : ℕ) (line : Line) (es : List Event) → AreEventsOf number made line es → length es ≤ 2
  line-short made (lines.Change time capture command) es is = let many = ap length is in omega (arith, many)
  line-short made (lines.Undo time) es is = let many = ap length is in omega (arith, many)
  line-short made (lines.Redo time) es is = let many = ap length is in omega (arith, many)
  line-short made (lines.Take elements) es is = let many = ap length is in omega (arith, many)
  line-short made (lines.Receive text) es (read, reads, is) =
      let many = ap length is in omega (arith, many, message-short made read)
  line-short made (lines.Hold id) es is = let many = ap length is in omega (arith, many)
  line-short made (lines.Release id) es is = let many = ap length is in omega (arith, many)
  line-short made lines.Scene es is = let many = ap length is in omega (arith, many)
  line-short made lines.State es is = let many = ap length is in omega (arith, many)
  line-short made (lines.Stored id) es is = let many = ap length is in omega (arith, many)
  line-short made lines.Lengths es is = let many = ap length is in omega (arith, many)
  line-short made lines.Pending es is = let many = ap length is in omega (arith, many)

  read-short : (made : ℕ) (read : Result Line TextFault) (es : List Event) → AreReadEvents number made read es
      → length es ≤ 2
  read-short made (Ok line) es is = line-short made line es is
  read-short made (Err fault) es is = let many = ap length is in omega (arith, many)

  lines-short : (made : ℕ) (lines : List (List ℕ)) (es : List Event) → SayEvents number made lines es
      → length es ≤ length lines + length lines
  lines-short made [] es say = let many = ap length say in omega (arith, many)
  lines-short made (bytes ∷ lines) es (read, first, others, reads, are, is, more) =
      let many = ap length is ∙ length-append first others in
      omega (arith, many, read-short made read first are, lines-short (made_after made first) lines others more)

pub session-short : (lines : List (List ℕ)) (opening : Opening) (es : List Event) → SaySession lines opening es
    → length es ≤ length lines + length lines
session-short [] opening es say = absurd say
session-short (bytes ∷ lines) opening es (inl (fault, reads, say)) =
    let rest = session-short lines opening es say in omega (arith, rest)
session-short (bytes ∷ lines) opening es (inr (reads, say)) =
    let rest = lines-short opening.number 0 lines es say in omega (arith, rest)

pub opening-is : (lines : List (List ℕ)) (opening : Opening) (es : List Event) → SaySession lines opening es
    → IsReplicaOpening opening
opening-is [] opening es say = absurd say
opening-is (bytes ∷ lines) opening es (inl (fault, reads, say)) = opening-is lines opening es say
opening-is (bytes ∷ lines) opening es (inr (says text alone is, say)) = opening-kept text opening is
opening-is (bytes ∷ lines) opening es (inr (faulty fault is e, say)) = absurd (apart opening (Json fault) e)

-- ---- what holds of every replica of a session
module _ (P : Seat → Type 0) (each : (session : Session) (count : ℕ) (s : Seat) → IsSession session
    → Contains (world_after session count).seats s → P s) where
  at-end : (session : Session) (number : ℕ) → IsSession session → number < session.replicas
      → P (seat_at (last_world session) number)
  at-end session number is few =
      let all = world-last session (length session.events) (omega arith) in
      let seats : length (last_world session).seats ≡ session.replicas =
      events-seats session.events (opened session) ∙ opened-seats session in
      each session (length session.events) (seat_at (last_world session) number) is
      (subst (λ (w : World). Contains w.seats (seat_at (last_world session) number)) (sym all)
      (Contains-get_or (last_world session).seats number fresh (omega (arith, few, seats))))

  pub each-living : AreWhole → (lines texts : List (List ℕ)) (l : Living) → AnswersAll None lines texts (Some l)
      → length lines ≤ most_lines → P l.seat
  each-living whole lines texts l are few =
      let is = in-session whole lines texts l are in
      let short : length is.events ≤ most_events =
      omega (arith, few, session-short lines is.opening is.events is.say) in
      subst P (sym is.seat) (at-end (session_of is.opening is.events) is.opening.number (is.keeps short)
      (opening-is lines is.opening is.events is.say).number)
