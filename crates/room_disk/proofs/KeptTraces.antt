-- A durable room has one trace.
use Rattle.std.proofs.Common.{◌≡◌, ◌≢◌, ℕ, ◌+◌, ◌≤◌, Bool, true, false, List, [], ◌∷◌, ◌++◌, length, Option, Some, None, option_to_list, Ok, Err, refl, sym, ap, ap₂, subst, ◌∙◌, append_assoc, length-append, arith}
use Rattle.std.specs.Option.{option_map}
use Rattle.std.proofs.lemmas.List.{length-map}
use Rattle.frac_keys.specs.Rising.{are_rising}
use Rattle.elem.specs.ElementValue.{ElementValue}
use Rattle.elem_store.specs.Updates.{ids_of}
use Rattle.board_ends.specs.Ends.{LinksEnd, SinkEnd}
use Rattle.board_ends.specs.Events.{opening_of}
use Rattle.board_ends.specs.declared.links.LinkEvent.{LinkEvent}
use Rattle.board_ends.specs.declared.links.LinkEvent.TheVariants.{Opened, Text, Closed, Idle}
use Rattle.room_msg.specs.declared.message.Message.TheVariants.{Init, Update, Presence}
use Rattle.room_core.specs.Closing.{TellAll}
use Rattle.room_core.specs.Rooms.{RoomState, Happening, Joined, Heard, Left, Nothing, IsHeardAs, IsRoomAfter, texts_of, without}
use Rattle.room_core.specs.Serving.{Serving, Round, at_start, end_of, serving_after, serving_at}
use Rattle.room_core.specs.Told.{Try, Tells, links_gone, texts_lost, texts_sent, texts_tried}
use Rattle.room_core.specs.declared.limits.RoomLimits.{RoomLimits}
use Rattle.room_core.proofs.CallerLemmas.{RoundAlike, after-once, after-rises, events_of, head-same, hearing-once, lost-once, nil-cons, round-same, tail-same, told-once, tried-alike, tries_of}
use Rattle.scene_file.specs.Heads.{Heading}
use Rattle.room_disk.specs.Keeping.{Account, Last, AreKeptRounds, EndsKept, IsAccount, IsKept, IsKeptRound, count_after, count_at, events_in, keep_end, kept_texts, messages_in, step_texts, tries_in, untouched}
use Rattle.room_disk.specs.declared.keep_end.KeepEnd.{KeepEnd}
use Rattle.room_disk.specs.declared.keep_end.KeepEnd.TheVariants.{AllClosed, Idle as IdleEnd, LinkFault, LinksFull, EventsFull, JournalFault, Memory}

-- ---- a round of one event, of whose texts the same were lost, is one
round-once : (count : ℕ) (room : RoomState) (p q : Round) (r s : List Try) (n : ℕ)
    → are_rising (ids_of room.elements) ≡ true → IsKeptRound count room p → IsKeptRound count room q
    → p.event ≡ q.event → texts_lost n (p.tries ++ r) ≡ texts_lost n (q.tries ++ s) → RoundAlike p q r s
round-once count room p q r s n rises one two event lost =
    let heard : IsHeardAs room.joined p.event q.happening =
    subst (λ e. IsHeardAs room.joined e q.happening) (sym event) two.heard in
    let happening : p.happening ≡ q.happening =
    hearing-once room.joined p.event p.happening q.happening one.heard heard in
    let after : IsRoomAfter room p.happening q.stepped =
    subst (λ h. IsRoomAfter room h q.stepped) (sym happening) two.stepped in
    let stepped : p.stepped ≡ q.stepped = after-once room p.stepped q.stepped p.happening rises one.stepped after in
    let tried : texts_tried p.tries ≡ texts_tried q.tries =
    one.tried ∙ ap (step_texts count room) happening ∙ sym two.tried in
    let same = tried-alike n p.tries q.tries r s tried lost in
    record {
      round = round-same p q event happening stepped same.tries
          (one.after
          ∙ ap₂ (λ (new : RoomState) (tries : List Try). record new {
            joined =
                without new.joined (links_gone tries);
          }) stepped same.tries ∙ sym two.after);
      count = same.count;
      rest = same.rest;
    }

pub kept-rises : (count : ℕ) (room : RoomState) (round : Round) → are_rising (ids_of room.elements) ≡ true
    → IsKeptRound count room round → are_rising (ids_of round.after.elements) ≡ true
kept-rises count room round rises is =
    subst (λ (new : RoomState). are_rising (ids_of new.elements) ≡ true) (sym is.after)
    (after-rises room round.stepped round.happening rises is.stepped)

-- ---- how many texts were tried
kept-size : (count : ℕ) (happening : Happening) → length (kept_texts count happening) ≡ length (messages_in happening)
kept-size count (Joined link) = refl
kept-size count (Heard link (Ok (Init elements))) = refl
kept-size count (Heard link (Ok (Update elements))) = refl
kept-size count (Heard link (Ok (Presence value))) = refl
kept-size count (Heard link (Err fault)) = refl
kept-size count (Left links) = refl
kept-size count Nothing = refl

-- each message of a round is told of by a text
round-size : (count : ℕ) (room : RoomState) (round : Round) → IsKeptRound count room round
    → length (messages_in round.happening) ≤ length round.tries
round-size count room round is =
    let tried = sym (length-map round.tries (λ (try : Try). (try.link, try.text))) ∙ ap length is.tried in
    omega (
      arith,
      tried,
      length-append (texts_of room round.happening) (kept_texts count round.happening),
      kept-size count round.happening,
    )

-- texts that were tried were sent or lost
tries-size : (n : ℕ) (tries : List Try) → length tries ≡ length (texts_sent tries) + length (texts_lost n tries)
tries-size n [] = refl
tries-size n (try ∷ tries) = by (λ m. tries-size m tries) try.is_sent refl
  where
    by : ((m : ℕ) → length tries ≡ length (texts_sent tries) + length (texts_lost m tries)) → (b : Bool)
        → try.is_sent ≡ b
        → length (try ∷ tries) ≡ length (texts_sent (try ∷ tries)) + length (texts_lost n (try ∷ tries))
    by others true is = rw is (omega (arith, others (n + 1)))
    by others false is = rw is (omega (arith, others n))

-- ---- the end of a durable room is one
-- the end, by what ended the room by its counts, and the event that came last
abbrev end-by : Option KeepEnd → Option LinkEvent → KeepEnd
end-by (Some end) event = end
end-by None None = LinkFault
end-by None (Some (Opened link)) = LinksFull
end-by None (Some (Text link bytes)) = JournalFault
end-by None (Some (Closed link)) = JournalFault
end-by None (Some Idle) = JournalFault

-- the messages of what came last
abbrev AreLast : List ℕ → Option LinkEvent → List (List ElementValue) → Type 0
AreLast joined None messages = messages ≡ []
AreLast joined (Some event) messages =
    (happening : Happening) × IsHeardAs joined event happening × (messages ≡ messages_in happening)

last-once : (joined : List ℕ) (event : Option LinkEvent) (messages others : List (List ElementValue))
    → AreLast joined event messages → AreLast joined event others → messages ≡ others
last-once joined None messages others one two = one ∙ sym two
last-once joined (Some event) messages others one two =
    one.2 ∙ ap messages_in (hearing-once joined event one.0 two.0 one.1 two.1) ∙ sym two.2

record Ending (limits : RoomLimits) (now : Serving) (last : Last) (new : RoomState) (end : KeepEnd) : Type 0 where
  cause : end-by (option_map keep_end (end_of limits now)) last.event ≡ end
  tries : last.tries ≡ []
  messages : AreLast now.room.joined last.event last.messages
  room : new ≡ now.room

-- a message that is held back came in a text
held-cause : (joined : List ℕ) (event : LinkEvent) (happening : Happening) → IsHeardAs joined event happening
    → 1 ≤ length (messages_in happening) → end-by None (Some event) ≡ JournalFault
held-cause joined (Opened link) happening heard one =
    let none : length (messages_in happening) ≡ 0 = ap (λ (h : Happening). length (messages_in h)) heard in
    absurd (omega arith)
held-cause joined (Text link bytes) happening heard one = refl
held-cause joined (Closed link) happening heard one = refl
held-cause joined Idle happening heard one = refl

module _ (limits : RoomLimits) (now : Serving) (count : ℕ) (last : Last) (new : RoomState) where
  untouched-ending : (end : KeepEnd) (event : Option LinkEvent)
      → end-by (option_map keep_end (end_of limits now)) event ≡ end → AreLast now.room.joined event []
      → last ≡ untouched event → new ≡ now.room → Ending limits now last new end
  untouched-ending end event cause messages is room = record {
    cause = ap (λ (l : Last). end-by (option_map keep_end (end_of limits now)) l.event) is ∙ cause;
    tries = ap (λ (l : Last). l.tries) is;
    messages = subst (λ (l : Last). AreLast now.room.joined l.event l.messages) (sym is) messages;
    room = room;
  }

  counted-ending : (end : KeepEnd) → option_map keep_end (end_of limits now) ≡ Some end → last ≡ untouched None
      → new ≡ now.room → Ending limits now last new end
  counted-ending end ends is room =
      untouched-ending end None (ap (λ (by : Option KeepEnd). end-by by None) ends) refl is room

  ending : (end : KeepEnd) → end ≢ Memory → EndsKept limits now count last new end → Ending limits now last new end
  ending AllClosed whole ends = counted-ending AllClosed ends.0 ends.1 ends.2
  ending IdleEnd whole ends = counted-ending IdleEnd ends.0 ends.1 ends.2
  ending EventsFull whole ends = counted-ending EventsFull ends.0 ends.1 ends.2
  ending LinkFault whole ends =
      untouched-ending LinkFault None (ap (λ by. end-by (option_map keep_end by) None) ends.0) refl ends.1 ends.2
  ending LinksFull whole ends =
      let link = ends.2.0 in
      untouched-ending LinksFull (Some (Opened link))
      (ap (λ by. end-by (option_map keep_end by) (Some (Opened link))) ends.0)
      (Joined link, refl, refl) ends.2.1 ends.3
  ending JournalFault whole ends =
      let held = ends.1 in
      record {
        cause = ap₂ (λ by event. end-by (option_map keep_end by) event) ends.0 held.given
            ∙ held-cause now.room.joined held.event held.happening held.heard
            (subst (λ (ms : List (List ElementValue)). 1 ≤ length ms) held.messages held.one);
        tries = held.unsent;
        messages = subst (λ event. AreLast now.room.joined event last.messages) (sym held.given)
            (held.happening, held.heard, held.messages);
        room = ends.2;
      }
  ending Memory whole ends = absurd (whole refl)

  -- a room that goes on doesn't end before its next round
  not-yet : (end : KeepEnd) (round : Round) (events : List LinkEvent) (tries : List Try)
      → end ≢ Memory → end_of limits now ≡ None → now.opened + opening_of round.event ≤ limits.links
      → IsKeptRound count now.room round → option_to_list last.event ≡ round.event ∷ events
      → length last.tries ≡ length (round.tries ++ tries) → EndsKept limits now count last new end → ⊥
  not-yet AllClosed round events tries whole is within one given size ends =
      let both : None ≡ Some AllClosed = sym (ap (option_map keep_end) is) ∙ ends.0 in cc
  not-yet IdleEnd round events tries whole is within one given size ends =
      let both : None ≡ Some IdleEnd = sym (ap (option_map keep_end) is) ∙ ends.0 in cc
  not-yet EventsFull round events tries whole is within one given size ends =
      let both : None ≡ Some EventsFull = sym (ap (option_map keep_end) is) ∙ ends.0 in cc
  not-yet LinkFault round events tries whole is within one given size ends =
      nil-cons round.event events (ap (λ (l : Last). option_to_list l.event) (sym ends.1) ∙ given)
  not-yet LinksFull round events tries whole is within one given size ends =
      let opens : Opened ends.2.0 ≡ round.event = head-same (Opened ends.2.0) round.event [] events
      (ap (λ (l : Last). option_to_list l.event) (sym ends.2.1) ∙ given) in
      let opening : 1 ≡ opening_of round.event = ap opening_of opens in
      omega (arith, within, opening, ends.1)
  not-yet JournalFault round events tries whole is within one given size ends =
      let held = ends.1 in
      let event : held.event ≡ round.event =
      head-same held.event round.event [] events (ap option_to_list (sym held.given) ∙ given) in
      let happening : held.happening ≡ round.happening =
      hearing-once now.room.joined round.event held.happening round.happening
      (subst (λ e. IsHeardAs now.room.joined e held.happening) event held.heard) one.heard in
      let messages : length last.messages ≡ length (messages_in round.happening) =
      ap length held.messages ∙ ap (λ h. length (messages_in h)) happening in
      let unsent : length last.tries ≡ 0 = ap length held.unsent in
      omega (
        arith,
        messages,
        unsent,
        held.one,
        size,
        length-append round.tries tries,
        round-size count now.room round one,
      )
  not-yet Memory round events tries whole is within one given size ends = whole refl

-- ---- the trace of a durable room is one
same-event : (a b : Option LinkEvent) → option_to_list a ≡ option_to_list b → a ≡ b
same-event None None h = refl
same-event None (Some b) h = absurd (nil-cons _ _ h)
same-event (Some a) None h = absurd (nil-cons _ _ (sym h))
same-event (Some a) (Some b) h = ap Some (head-same a b [] [] h)

record TraceAlike (one two : Account) (new other : RoomState) (end final : KeepEnd) : Type 0 where
  account : one ≡ two
  room : new ≡ other
  ends : end ≡ final

-- two ends without rounds before them
ends-alike : (limits : RoomLimits) (now : Serving) (last also : Last) (new other : RoomState) (end final : KeepEnd)
    → Ending limits now last new end → Ending limits now also other final
    → option_to_list last.event ≡ option_to_list also.event
    → TraceAlike (record { rounds = []; last = last }) (record { rounds = []; last = also }) new other end final
ends-alike limits now last also new other end final one two events =
    let event = same-event last.event also.event events in
    let tries : last.tries ≡ also.tries = one.tries ∙ sym two.tries in
    let messages = last-once now.room.joined last.event last.messages also.messages one.messages
    (subst (λ e. AreLast now.room.joined e also.messages) (sym event) two.messages) in
    record {
      account = λ i. record {
        rounds = [];
        last = record { event = event i; tries = tries i; messages = messages i };
      };
      room = one.room ∙ sym two.room;
      ends = sym one.cause ∙ ap (end-by (option_map keep_end (end_of limits now))) event ∙ two.cause;
    }

traces : (limits : RoomLimits) (now : Serving) (count : ℕ) (ps qs : List Round) (last also : Last)
    (new other : RoomState) (end final : KeepEnd) (n : ℕ)
    → are_rising (ids_of now.room.elements) ≡ true → end ≢ Memory → final ≢ Memory
    → AreKeptRounds limits now count ps → EndsKept limits (serving_at now ps) (count_at count ps) last new end
    → AreKeptRounds limits now count qs → EndsKept limits (serving_at now qs) (count_at count qs) also other final
    → events_of ps ++ option_to_list last.event ≡ events_of qs ++ option_to_list also.event
    → texts_lost n (tries_of ps ++ last.tries) ≡ texts_lost n (tries_of qs ++ also.tries)
    → length (tries_of ps ++ last.tries) ≡ length (tries_of qs ++ also.tries)
    → TraceAlike (record { rounds = ps; last = last }) (record { rounds = qs; last = also }) new other end final
traces limits now count [] [] last also new other end final n rises whole too ps_are ends qs_are also_ends events lost
    size =
    ends-alike limits now last also new other end final (ending limits now count last new end whole ends)
    (ending limits now count also other final too also_ends) events
traces limits now count [] (q ∷ qs) last also new other end final n rises whole too ps_are ends qs_are also_ends events
    lost size =
    absurd (not-yet limits now count last new end q (events_of qs ++ option_to_list also.event)
    (tries_of qs ++ also.tries) whole qs_are.0 qs_are.1 qs_are.2 events
    (size ∙ ap length (append_assoc q.tries (tries_of qs) also.tries)) ends)
traces limits now count (p ∷ ps) [] last also new other end final n rises whole too ps_are ends qs_are also_ends events
    lost size =
    absurd (not-yet limits now count also other final p (events_of ps ++ option_to_list last.event)
    (tries_of ps ++ last.tries) too ps_are.0 ps_are.1 ps_are.2 (sym events)
    (sym size ∙ ap length (append_assoc p.tries (tries_of ps) last.tries)) also_ends)
traces limits now count (p ∷ ps) (q ∷ qs) last also new other end final n rises whole too ps_are ends qs_are also_ends
    events lost size =
    let one : (p.tries ++ tries_of ps) ++ last.tries ≡ p.tries ++ (tries_of ps ++ last.tries) =
    append_assoc p.tries (tries_of ps) last.tries in
    let two : (q.tries ++ tries_of qs) ++ also.tries ≡ q.tries ++ (tries_of qs ++ also.tries) =
    append_assoc q.tries (tries_of qs) also.tries in
    let same = round-once count now.room p q (tries_of ps ++ last.tries) (tries_of qs ++ also.tries) n rises ps_are.2
    qs_are.2 (head-same _ _ _ _ events) (ap (texts_lost n) (sym one) ∙ lost ∙ ap (texts_lost n) two) in
    let long : length p.tries + length (tries_of ps ++ last.tries)
    ≡ length q.tries + length (tries_of qs ++ also.tries) =
    sym (length-append p.tries (tries_of ps ++ last.tries)) ∙ ap length (sym one) ∙ size ∙ ap length two
    ∙ length-append q.tries (tries_of qs ++ also.tries) in
    let mine : length p.tries ≡ length q.tries = ap (λ (round : Round). length round.tries) same.round in
    let others = traces limits (serving_after now p) (count_after count p) ps qs last also new other end final
    same.count (kept-rises count now.room p rises ps_are.2) whole too ps_are.3 ends
    (subst (λ (round : Round). AreKeptRounds limits (serving_after now round) (count_after count round) qs)
    (sym same.round) qs_are.3)
    (subst (λ (round : Round). EndsKept limits (serving_at (serving_after now round) qs)
    (count_at (count_after count round) qs) also other final) (sym same.round) also_ends)
    (tail-same _ _ _ _ events) same.rest (omega (arith, long, mine)) in
    record {
      account =
          ap₂ (λ (round : Round) (account : Account). record account { rounds = round ∷ account.rounds }) same.round
          others.account;
      room = others.room;
      ends = others.ends;
    }

accounts-once : (limits : RoomLimits) (now : Serving) (count : ℕ) (new other : RoomState) (before after : LinksEnd)
    (end final : KeepEnd) (one two : Account) → are_rising (ids_of now.room.elements) ≡ true → TellAll before
    → end ≢ Memory → final ≢ Memory → IsAccount limits now count new end one
    → IsAccount limits now count other final two → Tells before after (events_in one) (tries_in one)
    → Tells before after (events_in two) (tries_in two) → TraceAlike one two new other end final
accounts-once limits now count new other before after end final one two rises tell whole too is also told retold =
    let lost = lost-once before.sent before.lost after.lost (tries_in one) (tries_in two) tell.sent tell.lost told.lost
    retold.lost in
    let sent : texts_sent (tries_in one) ≡ texts_sent (tries_in two) =
    told-once before.sent after.sent _ _ tell.sent told.sent retold.sent in
    traces limits now count one.rounds two.rounds one.last two.last new other end final lost.0 rises whole too
    is.are_rounds is.ended also.are_rounds also.ended
    (told-once before.given after.given (events_in one) (events_in two) tell.given told.given retold.given) lost.1
    (tries-size lost.0 (tries_in one)
    ∙ ap₂ (λ (n m : ℕ). n + m) (ap length sent) (ap length lost.1) ∙ sym (tries-size lost.0 (tries_in two)))

pub keeping-once : (limits : RoomLimits) (head : Heading) (port : ℕ) (room new other : RoomState)
    (before after : LinksEnd) (journal journal_after second second_after : SinkEnd) (end final : KeepEnd)
    → are_rising (ids_of room.elements) ≡ true → TellAll before → end ≢ Memory → final ≢ Memory
    → (one : IsKept limits head port room new before after journal journal_after end)
    (two : IsKept limits head port room other before after second second_after final)
    → (one.account ≡ two.account) × (new ≡ other) × (end ≡ final)
keeping-once limits head port room new other before after journal journal_after second second_after end final rises tell
    whole too one two =
    let same = accounts-once limits (at_start room) 0 new other before after end final one.account two.account rises tell
    whole too one.is two.is one.told two.told in
    (same.account, same.room, same.ends)
