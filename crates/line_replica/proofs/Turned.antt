-- Lines that change a replica, undo it and redo it are events of a session, and so bring back what
-- was, and repeat it.
use Rattle.std.proofs.Common.{◌≡◌, ◌≢◌, ◌<◌, ◌≤◌, ◌+◌, inl, inr, ℕ, zero, suc, List, [], ◌∷◌, ◌++◌, length, drop, Some, None, Result, Ok, Err, refl, sym, ap, ◌∙◌, subst, arith, append-nil, append_assoc}
use Rattle.std.proofs.Math.Seq.{take-append_seam, drop-append_seam}
use Rattle.std.proofs.lemmas.Option.{none-some}
use Rattle.scene_file.specs.Heads.{Heading}
use Rattle.board_commands.specs.declared.command.Capture.TheVariants.{Now}
use Rattle.history.specs.Stacks.{chosen}
use Rattle.history.specs.declared.planned.Direction.{Direction}
use Rattle.history.specs.declared.planned.Direction.TheVariants as directions
use Rattle.replica.specs.Back.{HasNothingPending, IsAs}
use Rattle.replica.specs.State.{State, turn_on}
use Rattle.session_text.specs.Facts.{IsSession}
use Rattle.session_text.specs.Lines.{LineText, OpeningText}
use Rattle.session_text.specs.Sessions.{made_after, most_events}
use Rattle.session_text.specs.declared.event.Event.{Event}
use Rattle.session_text.specs.declared.event.Event.TheVariants as events
use Rattle.session_text.specs.declared.fault.TextFault.{TextFault}
use Rattle.session_text.specs.declared.fault.TextFault.TheVariants.{Json}
use Rattle.session_text.specs.declared.lines.Line.{Line}
use Rattle.session_text.specs.declared.lines.Line.TheVariants as lines
use Rattle.session_text.specs.declared.lines.Opening.{Opening}
use Rattle.session_text.specs.declared.session.Session.{Session}
use Rattle.session_text.proofs.CallerLemmas.{apart, opening-kept}
use Rattle.session.specs.Worlds.{Seat, World, after_event, after_events, change_on, given_of, head_of, opened, state_at, turn_by, world_after}
use Rattle.session_laws.specs.Turning.{AreAmong, AreChangesAt, AreRedosAt, AreUndosAt, IsChangeAt, IsTurnAt}
use Rattle.line_replica.specs.Living.{Living, nonce_of, of_change, of_turn, opened_as, session_of}
use Rattle.line_replica.specs.Sessions.{AreReadEvents, SayEvents, SaySession, most_lines}
use Rattle.line_replica.specs.Talks.{AnswersAll, LineReads, faulty, opened_by, says}
use Rattle.line_replica.specs.Turning.{AreLinesOf, IsChangeLine, IsNoEvent, IsRedoLine, IsTurnLine, IsUndoLine, turn_line}
use Rattle.line_replica.proofs.InSession.{AreWhole, Sits, act-sits, after-append, come, nonce-same, opened-sits, state-same}
use Rattle.line_replica.proofs.SessionKept.{keeps-session}
use Rattle.line_replica.proofs.Sound.{opening-is, session-short}

-- ---- from the opening on
record Sat (lines : List (List ℕ)) (l : Living) : Type 0 where
  opening : Opening
  events : List Event
  say : SaySession lines opening events
  sits : Sits (head_of (session_of opening [])) opening.number (made_after 0 events)
      (after_events events (opened (session_of opening []))) l

sat : (lines texts : List (List ℕ)) (l : Living) → AnswersAll None lines texts (Some l) → Sat lines l
sat [] texts l are = absurd (none-some l (sym are.1))
sat (line ∷ lines) [] l are = absurd are
sat (line ∷ lines) (text ∷ texts) l (middle, one, more) =
    by one.read one.reads (subst (λ x. AnswersAll x lines texts (Some l)) one.after more) (sat lines texts l)
  where
    few : (opening : Opening) → LineReads OpeningText line (Ok opening) → opening.number < 64
    few opening (says text alone is) = (opening-kept text opening is).number
    few opening (faulty fault is e) = absurd (apart opening (Json fault) e)

    by : (read : Result Opening TextFault) → LineReads OpeningText line read
        → AnswersAll (opened_by read) lines texts (Some l) → (AnswersAll None lines texts (Some l) → Sat lines l)
        → Sat (line ∷ lines) l
    by (Err why) reads others rest-of =
        let rest = rest-of others in
        record { opening = rest.opening; events = rest.events; say = inl (why, reads, rest.say); sits = rest.sits }
    by (Ok opening) reads others rest-of =
        let led = come (head_of (session_of opening [])) opening.number 0 (opened (session_of opening []))
        (opened_as opening) l lines texts others (opened-sits opening [] (few opening reads)) in
        record { opening = opening; events = led.events; say = inr (reads, led.say); sits = led.sits }

-- ---- lines behind lines
more-events : (number made : ℕ) (lines others : List (List ℕ)) (es fs : List Event) → SayEvents number made lines es
    → SayEvents number (made_after made es) others fs → SayEvents number made (lines ++ others) (es ++ fs)
more-events number made [] others es fs say more =
    subst (λ e. SayEvents number (made_after made e) others fs → SayEvents number made others (e ++ fs)) (sym say)
    (λ h. h) more
more-events number made (bytes ∷ lines) others es fs (read, first, behind, reads, are, is, say) more = (
  read,
  first,
  behind ++ fs,
  reads,
  are,
  ap (λ e. e ++ fs) is ∙ append_assoc first behind fs,
  more-events number (made_after made first) lines others behind fs say
      (subst (λ m. SayEvents number m others fs) (ap (made_after made) is ∙ after-append made first behind) more),
)

more-session : (lines others : List (List ℕ)) (opening : Opening) (es fs : List Event) → SaySession lines opening es
    → SayEvents opening.number (made_after 0 es) others fs → SaySession (lines ++ others) opening (es ++ fs)
more-session [] others opening es fs say more = absurd say
more-session (bytes ∷ lines) others opening es fs (inl (fault, reads, say)) more =
    inl (fault, reads, more-session lines others opening es fs say more)
more-session (bytes ∷ lines) others opening es fs (inr (reads, say)) more =
    inr (reads, more-events opening.number 0 lines others es fs say more)

session-is : AreWhole → (lines : List (List ℕ)) (opening : Opening) (es : List Event) → SaySession lines opening es
    → length es ≤ most_events → IsSession (session_of opening es)
session-is whole [] opening es say few = absurd say
session-is whole (bytes ∷ lines) opening es (inl (fault, reads, say)) few = session-is whole lines opening es say few
session-is whole (bytes ∷ lines) opening es (inr (reads, say)) few =
    keeps-session opening (opening-is (bytes ∷ lines) opening es (inr (reads, say))) whole lines es say few

-- ---- lines of one kind
module _ (head : Heading) (number : ℕ) (Of : Living → List ℕ → Living → Type 0) (Is : ℕ → Event → World → Type 0) where
  -- a line is an event of the kind
  record Step (made : ℕ) (w : World) (bytes : List ℕ) (next : Living) : Type 0 where
    event : Event
    read : Result Line TextFault
    reads : LineReads LineText bytes read
    are : AreReadEvents number made read (event ∷ [])
    is : Is number event w
    sits : Sits head number (made_after made (event ∷ [])) (after_event event w) next

  record Led (made : ℕ) (w : World) (lines : List (List ℕ)) (n : ℕ) (last : Living) : Type 0 where
    events : List Event
    say : SayEvents number made lines events
    among : AreAmong Is number events w n
    sits : Sits head number (made_after made events) (after_events events w) last

  asked : (made : ℕ) (w : World) (bytes : List ℕ) (lines : List (List ℕ)) (n : ℕ) (last : Living) → IsNoEvent bytes
      → Led made w lines n last → Led made w (bytes ∷ lines) n last
  asked made w bytes lines n last asks led = record {
    events = led.events;
    say = (asks.read, [], led.events, asks.reads, asks.none number made, refl, led.say);
    among = led.among;
    sits = led.sits;
  }

  led : ((made : ℕ) (w : World) (l next : Living) (bytes : List ℕ) → Sits head number made w l → Of l bytes next
      → Step made w bytes next)
      → (made : ℕ) (w : World) (l last : Living) (lines : List (List ℕ)) (n : ℕ) → Sits head number made w l
      → AreLinesOf Of l lines n last → Led made w lines n last
  led step made w l last [] zero sits are =
      record {
        events = [];
        say = refl;
        among = tt;
        sits =
            subst (λ (x : Living). Sits head number made w x) (sym are) sits;
      }
  led step made w l last [] (suc n) sits are = absurd are
  led step made w l last (bytes ∷ lines) zero sits are =
      asked made w bytes lines zero last are.0 (led step made w l last lines zero sits are.1)
  led step made w l last (bytes ∷ lines) (suc n) sits (inl (next, of, rest)) =
      let s = step made w l next bytes sits of in
      let later = led step (made_after made (s.event ∷ [])) (after_event s.event w) next last lines n s.sits rest in
      record {
        events = s.event ∷ later.events;
        say = (s.read, s.event ∷ [], later.events, s.reads, s.are, refl, later.say);
        among = inl (s.is, later.among);
        sits = later.sits;
      }
  led step made w l last (bytes ∷ lines) (suc n) sits (inr (asks, rest)) =
      asked made w bytes lines (suc n) last asks (led step made w l last lines (suc n) sits rest)

module _ (head : Heading) (number : ℕ) where
  change-step : (made : ℕ) (w : World) (l next : Living) (bytes : List ℕ) → Sits head number made w l
      → IsChangeLine l bytes next → Step head number IsChangeLine IsChangeAt made w bytes next
  change-step made w l next bytes sits of = record {
    event = events.Change number of.time Now of.command;
    read = Ok (lines.Change of.time Now of.command);
    reads = of.reads;
    are = refl;
    is = record {
      time = of.time;
      command = of.command;
      is = refl;
      gives = subst (λ nonce. given_of (change_on of.command Now of.time nonce (state_at w number)).outcome ≢ [])
          (sym (nonce-same head number made w l sits))
          (subst (λ (s : State). given_of (change_on of.command Now of.time (nonce_of l) s).outcome ≢ [])
          (sym (state-same head number made w l sits)) of.gives);
    };
    sits =
        subst (λ (x : Living). Sits head number (made + 1) (after_event (events.Change number of.time Now of.command) w)
        x) (sym of.after)
        (act-sits head number made w l sits (of_change of.command Now of.time l).text
        (λ nonce s. change_on of.command Now of.time nonce s));
  }

  abbrev turn_event : Direction → ℕ → Event
  turn_event direction time = chosen direction (events.Undo number time) (events.Redo number time)

  turn-are : (direction : Direction) (made time : ℕ)
      → AreReadEvents number made (Ok (turn_line direction time)) (turn_event direction time ∷ [])
  turn-are directions.Undo made time = refl
  turn-are directions.Redo made time = refl

  turn-sits : (direction : Direction) (made : ℕ) (w : World) (l : Living) (time : ℕ) → Sits head number made w l
      → Sits head number (made_after made (turn_event direction time ∷ []))
      (after_event (turn_event direction time) w) (of_turn direction time l).after
  turn-sits directions.Undo made w l time sits = act-sits head number made w l sits
      (of_turn directions.Undo time l).text
      (λ nonce s. turn_by directions.Undo time nonce s)
  turn-sits directions.Redo made w l time sits = act-sits head number made w l sits
      (of_turn directions.Redo time l).text
      (λ nonce s. turn_by directions.Redo time nonce s)

  turn-step : (direction : Direction) (made : ℕ) (w : World) (l next : Living) (bytes : List ℕ)
      → Sits head number made w l
      → IsTurnLine direction l bytes next → Step head number (IsTurnLine direction) (IsTurnAt direction) made w bytes
      next
  turn-step direction made w l next bytes sits of = record {
    event = turn_event direction of.time;
    read = Ok (turn_line direction of.time);
    reads = of.reads;
    are = turn-are direction made of.time;
    is = record {
      time = of.time;
      is = refl;
      turn = of.turn;
      found = subst (λ nonce. turn_on direction of.time nonce (state_at w number) ≡ Some (Ok of.turn))
          (sym (nonce-same head number made w l sits))
          (subst (λ (s : State). turn_on direction of.time (nonce_of l) s ≡ Some (Ok of.turn))
          (sym (state-same head number made w l sits)) of.found);
    };
    sits = subst (λ (x : Living). Sits head number (made_after made (turn_event direction of.time ∷ []))
        (after_event (turn_event direction of.time) w) x) (sym of.after) (turn-sits direction made w l of.time sits);
  }

-- ---- what the laws on sessions say
abbrev pub Back : Type 0
Back = (session : Session) (count at n : ℕ) (changes undos rest : List Event) → IsSession session
    → drop count session.events ≡ changes ++ undos ++ rest → at < session.replicas
    → HasNothingPending (state_at (world_after session count) at)
    → AreChangesAt at changes (world_after session count) n
    → AreUndosAt at undos (after_events changes (world_after session count)) n
    → IsAs (state_at (world_after session count) at)
    (state_at (after_events undos (after_events changes (world_after session count))) at)

abbrev pub Again : Type 0
Again = (session : Session) (count at r l : ℕ) (again others undos redos rest : List Event) → IsSession session
    → drop count session.events ≡ again ++ others ++ undos ++ redos ++ rest → at < session.replicas
    → HasNothingPending (state_at (world_after session count) at)
    → AreChangesAt at again (world_after session count) r
    → AreChangesAt at others (after_events again (world_after session count)) l
    → AreUndosAt at undos (after_events others (after_events again (world_after session count))) (r + l)
    → AreRedosAt at redos (after_events undos (after_events others (after_events again (world_after session count)))) r
    → IsAs (state_at (after_events again (world_after session count)) at)
    (state_at (after_events redos (after_events undos (after_events others (after_events again
    (world_after session count))))) at)

-- ---- the lines of a talk, and behind them further ones
module _ (whole : AreWhole) (before : List (List ℕ)) (l : Living) (at : Sat before l) where
  abbrev number : ℕ
  number = at.opening.number

  abbrev head : Heading
  head = head_of (session_of at.opening [])

  abbrev base : World
  base = after_events at.events (opened (session_of at.opening []))

  abbrev made : ℕ
  made = made_after 0 at.events

  abbrev session : List Event → Session
  session es = session_of at.opening (at.events ++ es)

  -- further lines say these events: then all are a session, if they are not too many
  record Played (es : List Event) : Type 0 where
    is : IsSession (session es)
    here : world_after (session es) (length at.events) ≡ base
    behind : drop (length at.events) (session es).events ≡ es ++ []
    few : number < 64

  played : (lines : List (List ℕ)) (es : List Event) → SayEvents number made lines es
      → length (before ++ lines) ≤ most_lines → Played es
  played lines es say short =
      let said = more-session before lines at.opening at.events es at.say say in
      record {
        is = session-is whole (before ++ lines) at.opening (at.events ++ es) said
            (omega (arith, short, session-short (before ++ lines) at.opening (at.events ++ es) said));
        here = ap (λ e. after_events e (opened (session es))) (take-append_seam at.events es);
        behind = drop-append_seam at.events es ∙ sym (append-nil es);
        few = (opening-is before at.opening at.events at.say).number;
      }

  abbrev Changed : ℕ → World → List (List ℕ) → ℕ → Living → Type 0
  Changed from w lines n last = Led head number IsChangeLine IsChangeAt from w lines n last

  abbrev Turned : Direction → ℕ → World → List (List ℕ) → ℕ → Living → Type 0
  Turned direction from w lines n last =
      Led head number (IsTurnLine direction) (IsTurnAt direction) from w lines n last

  changed : (from : ℕ) (w : World) (m k : Living) (lines : List (List ℕ)) (n : ℕ) → Sits head number from w m
      → AreLinesOf IsChangeLine m lines n k → Changed from w lines n k
  changed from w m k lines n sits are =
      led head number IsChangeLine IsChangeAt (change-step head number) from w m k lines n sits are

  turned : (direction : Direction) (from : ℕ) (w : World) (m k : Living) (lines : List (List ℕ)) (n : ℕ)
      → Sits head number from w m → AreLinesOf (IsTurnLine direction) m lines n k → Turned direction from w lines n k
  turned direction from w m k lines n sits are =
      led head number (IsTurnLine direction) (IsTurnAt direction) (turn-step head number direction) from w m k lines n
      sits are

  still-here : HasNothingPending l.seat.state → HasNothingPending (state_at base number)
  still-here still = subst HasNothingPending (ap (λ (s : Seat). s.state) at.sits.seat) still

  -- what is so of sessions where they come to, is so of the replica
  as-there : (w v : World) (m k : Living) (from to : ℕ) → Sits head number from w m → Sits head number to v k
      → IsAs (state_at w number) (state_at v number) → IsAs m.seat.state k.seat.state
  as-there w v m k from to one two is =
      subst (λ (s : State). IsAs s k.seat.state) (sym (ap (λ (s : Seat). s.state) one.seat))
      (subst (IsAs (state_at w number)) (sym (ap (λ (s : Seat). s.state) two.seat)) is)

  back-there : Back → (changes undos : List (List ℕ)) (m k : Living) (n : ℕ) (one : Changed made base changes n m)
      → Turned directions.Undo (made_after made one.events) (after_events one.events base) undos n k
      → HasNothingPending l.seat.state → length (before ++ (changes ++ undos)) ≤ most_lines
      → IsAs l.seat.state k.seat.state
  back-there back changes undos m k n one two still short =
      let es = one.events ++ two.events in
      let p = played (changes ++ undos) es (more-events number made changes undos one.events two.events one.say two.say)
      short in
      let at_base : IsAs (state_at base number) (state_at (after_events two.events (after_events one.events base))
      number) =
      subst (λ (w : World). HasNothingPending (state_at w number) → AreChangesAt number one.events w n
      → AreUndosAt number two.events (after_events one.events w) n
      → IsAs (state_at w number) (state_at (after_events two.events (after_events one.events w)) number)) p.here
      (back (session es) (length at.events) number n one.events two.events [] p.is p.behind p.few)
      (still-here still) one.among two.among in
      as-there base (after_events two.events (after_events one.events base)) l k made
      (made_after (made_after made one.events) two.events) at.sits two.sits at_base

  again-there : Again → (again others undos redos : List (List ℕ)) (m o u k : Living) (r n : ℕ)
      (one : Changed made base again r m)
      (two : Changed (made_after made one.events) (after_events one.events base) others n o)
      (three : Turned directions.Undo (made_after (made_after made one.events) two.events)
      (after_events two.events (after_events one.events base)) undos (r + n) u)
      → Turned directions.Redo (made_after (made_after (made_after made one.events) two.events) three.events)
      (after_events three.events (after_events two.events (after_events one.events base))) redos r k
      → HasNothingPending l.seat.state
      → length (before ++ (again ++ others ++ undos ++ redos)) ≤ most_lines → IsAs m.seat.state k.seat.state
  again-there law again others undos redos m o u k r n one two three four still short =
      let e = one.events ++ two.events in
      let f = e ++ three.events in
      let es = f ++ four.events in
      let to_e = after-append made one.events two.events in
      let to_f = after-append made e three.events ∙ ap (λ x. made_after x three.events) to_e in
      let say_e = more-events number made again others one.events two.events one.say two.say in
      let say_f = more-events number made (again ++ others) undos e three.events say_e
      (subst (λ x. SayEvents number x undos three.events) (sym to_e) three.say) in
      let say = more-events number made (again ++ others ++ undos) redos f four.events say_f
      (subst (λ x. SayEvents number x redos four.events) (sym to_f) four.say) in
      let p = played (again ++ others ++ undos ++ redos) es say short in
      let at_base : IsAs (state_at (after_events one.events base) number)
      (state_at (after_events four.events (after_events three.events (after_events two.events (after_events one.events
      base)))) number) =
      subst (λ (w : World). HasNothingPending (state_at w number) → AreChangesAt number one.events w r
      → AreChangesAt number two.events (after_events one.events w) n
      → AreUndosAt number three.events (after_events two.events (after_events one.events w)) (r + n)
      → AreRedosAt number four.events (after_events three.events (after_events two.events (after_events one.events w))) r
      → IsAs (state_at (after_events one.events w) number)
      (state_at (after_events four.events (after_events three.events (after_events two.events (after_events one.events
      w)))) number)) p.here
      (law (session es) (length at.events) number r n one.events two.events three.events four.events [] p.is p.behind
      p.few)
      (still-here still) one.among two.among three.among four.among in
      as-there (after_events one.events base)
      (after_events four.events (after_events three.events (after_events two.events (after_events one.events base)))) m
      k (made_after made one.events)
      (made_after (made_after (made_after (made_after made one.events) two.events) three.events) four.events)
      one.sits four.sits at_base

pub brings-back : AreWhole → Back → (before texts changes undos : List (List ℕ)) (l m k : Living) (n : ℕ)
    → AnswersAll None before texts (Some l) → HasNothingPending l.seat.state
    → AreLinesOf IsChangeLine l changes n m → AreLinesOf IsUndoLine m undos n k
    → length (before ++ (changes ++ undos)) ≤ most_lines → IsAs l.seat.state k.seat.state
brings-back whole back before texts changes undos l m k n are still first second short =
    let at = sat before texts l are in
    let one = changed whole before l at (made whole before l at) (base whole before l at) l m changes n at.sits first in
    let two = turned whole before l at directions.Undo (made_after (made whole before l at) one.events)
    (after_events one.events (base whole before l at)) m k undos n one.sits second in
    back-there whole before l at back changes undos m k n one two still short

pub repeats : AreWhole → Again → (before texts again others undos redos : List (List ℕ)) (l m o u k : Living)
    (r n : ℕ) → AnswersAll None before texts (Some l) → HasNothingPending l.seat.state
    → AreLinesOf IsChangeLine l again r m → AreLinesOf IsChangeLine m others n o
    → AreLinesOf IsUndoLine o undos (r + n) u → AreLinesOf IsRedoLine u redos r k
    → length (before ++ (again ++ others ++ undos ++ redos)) ≤ most_lines → IsAs m.seat.state k.seat.state
repeats whole law before texts again others undos redos l m o u k r n are still first second third fourth short =
    let at = sat before texts l are in
    let from = made whole before l at in
    let w = base whole before l at in
    let one = changed whole before l at from w l m again r at.sits first in
    let two = changed whole before l at (made_after from one.events) (after_events one.events w) m o others n one.sits
    second in
    let three = turned whole before l at directions.Undo (made_after (made_after from one.events) two.events)
    (after_events two.events (after_events one.events w)) o u undos (r + n) two.sits third in
    let four = turned whole before l at directions.Redo
    (made_after (made_after (made_after from one.events) two.events) three.events)
    (after_events three.events (after_events two.events (after_events one.events w))) u k redos r three.sits fourth in
    again-there whole before l at law again others undos redos m o u k r n one two three four still short
