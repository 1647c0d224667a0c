-- A room that is served has one trace.
use Rattle.std.proofs.Common.{◌≡◌, ◌≢◌, ℕ, ◌+◌, ◌≤◌, Bool, true, false, List, [], ◌∷◌, ◌++◌, Option, Some, None, is_some, option_to_list, refl, sym, ap, ap₂, subst, ◌∙◌, append_assoc, arith}
use Rattle.frac_keys.specs.Rising.{are_rising}
use Rattle.elem_store.specs.Updates.{ids_of}
use Rattle.elem_store.proofs.CallerLemmas.{AreStored-itself, store-unique}
use Rattle.board_ends.specs.Ends.{LinksEnd}
use Rattle.board_ends.specs.Events.{opening_of}
use Rattle.board_ends.specs.declared.links.LinkEvent.{LinkEvent}
use Rattle.board_ends.specs.declared.links.LinkEvent.TheVariants.{Opened}
use Rattle.room_core.specs.Closing.{TellAll}
use Rattle.room_core.specs.Rooms.{RoomState, Happening, IsHeardAs, IsRoomAfter, taken_of, texts_of, without}
use Rattle.room_core.specs.Serving.{Serving, Round, IsRound, AreRounds, EndsBy, IsServed, end_of, serving_after, serving_at}
use Rattle.room_core.specs.Told.{Try, links_gone, texts_lost, texts_tried}
use Rattle.room_core.specs.declared.limits.RoomLimits.{RoomLimits}
use Rattle.room_core.specs.declared.limits.ServeEnd.{ServeEnd}
use Rattle.room_core.specs.declared.limits.ServeEnd.TheVariants.{AllClosed, Idle as IdleEnd, LinkFault, LinksFull, EventsFull, Memory}
use Rattle.room_core.proofs.Closing.{events_of, tries_of, head-same, tail-same, nil-cons, lost-later, lost-once, told-once}
use Rattle.room_core.proofs.MemberLaws.{hearing-once}

-- ---- texts that were tried, of which the same were lost
pub record TriedAlike (ts us r s : List Try) : Type 0 where
  pub tries : ts ≡ us
  pub count : ℕ
  pub rest : texts_lost count r ≡ texts_lost count s

try-same : (t u : Try) → t.link ≡ u.link → t.text ≡ u.text → t.is_sent ≡ u.is_sent → t ≡ u
try-same t u link text is_sent = λ i. record { link = link i; text = text i; is_sent = is_sent i }

pub tried-alike : (n : ℕ) (ts us r s : List Try) → texts_tried ts ≡ texts_tried us
    → texts_lost n (ts ++ r) ≡ texts_lost n (us ++ s) → TriedAlike ts us r s
tried-alike n [] [] r s texts lost = record { tries = refl; count = n; rest = lost }
tried-alike n [] (u ∷ us) r s texts lost = absurd (nil-cons _ _ texts)
tried-alike n (t ∷ ts) [] r s texts lost = absurd (nil-cons _ _ (sym texts))
tried-alike n (t ∷ ts) (u ∷ us) r s texts lost =
    by (λ m. tried-alike m ts us r s (tail-same {X = ℕ × List ℕ} _ _ (texts_tried ts) (texts_tried us) texts)) t.is_sent
    u.is_sent refl refl
  where
    link : t.link ≡ u.link
    link = ap (λ (text : ℕ × List ℕ). text.0) (head-same {X = ℕ × List ℕ} _ _ (texts_tried ts) (texts_tried us) texts)

    text : t.text ≡ u.text
    text = ap (λ (text : ℕ × List ℕ). text.1) (head-same {X = ℕ × List ℕ} _ _ (texts_tried ts) (texts_tried us) texts)

    by : ((m : ℕ) → texts_lost m (ts ++ r) ≡ texts_lost m (us ++ s) → TriedAlike ts us r s) → (b c : Bool)
        → t.is_sent ≡ b → u.is_sent ≡ c
        → TriedAlike (t ∷ ts) (u ∷ us) r s
    by more true true one two =
        let others = more (n + 1) (rw (one, two) at lost) in
        record {
          tries = ap₂ (λ (x : Try) (xs : List Try). x ∷ xs) (try-same t u link text (one ∙ sym two))
              others.tries;
          count = others.count;
          rest = others.rest;
        }
    by more false false one two =
        let others = more n (tail-same _ _ _ _ (rw (one, two) at lost)) in
        record {
          tries = ap₂ (λ (x : Try) (xs : List Try). x ∷ xs) (try-same t u link text (one ∙ sym two))
              others.tries;
          count = others.count;
          rest = others.rest;
        }
    by more true false one two =
        let later = lost-later (n + 1) (ts ++ r) (n, u.link) (texts_lost n (us ++ s)) (rw (one, two) at lost) in
        absurd (omega (arith, later))
    by more false true one two =
        let later = lost-later (n + 1) (us ++ s) (n, t.link) (texts_lost n (ts ++ r)) (sym (rw (one, two) at lost)) in
        absurd (omega (arith, later))

-- ---- a room after what happened is one
room-same : (a b : RoomState) → a.elements ≡ b.elements → a.joined ≡ b.joined → a ≡ b
room-same a b elements joined = λ i. record { elements = elements i; joined = joined i }

pub after-once : (room a b : RoomState) (happening : Happening) → are_rising (ids_of room.elements) ≡ true
    → IsRoomAfter room happening a → IsRoomAfter room happening b → a ≡ b
after-once room a b happening rises one two =
    let own = AreStored-itself room.elements rises in
    room-same a b (store-unique (room.elements ++ taken_of happening) a.elements b.elements
    (one.elements room.elements own) (two.elements room.elements own)) (one.joined ∙ sym two.joined)

pub after-rises : (room new : RoomState) (happening : Happening) → are_rising (ids_of room.elements) ≡ true
    → IsRoomAfter room happening new → are_rising (ids_of new.elements) ≡ true
after-rises room new happening rises after =
    (after.elements room.elements (AreStored-itself room.elements rises)).ordered

pub round-same : (p q : Round) → p.event ≡ q.event → p.happening ≡ q.happening → p.stepped ≡ q.stepped → p.tries ≡ q.tries
    → p.after ≡ q.after → p ≡ q
round-same p q event happening stepped tries after =
    λ i. record { event = event i; happening = happening i; stepped = stepped i; tries = tries i; after = after i }

-- a round of one event, of whose texts the same were lost, is one
pub record RoundAlike (p q : Round) (r s : List Try) : Type 0 where
  pub round : p ≡ q
  pub count : ℕ
  pub rest : texts_lost count r ≡ texts_lost count s

round-once : (room : RoomState) (p q : Round) (r s : List Try) (n : ℕ) → are_rising (ids_of room.elements) ≡ true
    → IsRound room p → IsRound room q → p.event ≡ q.event
    → texts_lost n (p.tries ++ r) ≡ texts_lost n (q.tries ++ s) → RoundAlike p q r s
round-once room p q r s n rises one two event lost =
    let heard : IsHeardAs room.joined p.event q.happening =
    subst (λ e. IsHeardAs room.joined e q.happening) (sym event) two.heard in
    let happening : p.happening ≡ q.happening =
    hearing-once room.joined p.event p.happening q.happening one.heard heard in
    let after : IsRoomAfter room p.happening q.stepped =
    subst (λ h. IsRoomAfter room h q.stepped) (sym happening) two.stepped in
    let stepped : p.stepped ≡ q.stepped = after-once room p.stepped q.stepped p.happening rises one.stepped after in
    let tried : texts_tried p.tries ≡ texts_tried q.tries = one.tried ∙ ap (texts_of room) happening ∙ sym two.tried in
    let same = tried-alike n p.tries q.tries r s tried lost in
    record {
      round = round-same p q event happening stepped same.tries
          (one.after
          ∙ ap₂ (λ (new : RoomState) (tries : List Try). record new {
            joined =
                without new.joined (links_gone tries);
          }) stepped same.tries ∙ sym two.after);
      count = same.count;
      rest = same.rest;
    }

pub round-rises : (room : RoomState) (round : Round) → are_rising (ids_of room.elements) ≡ true → IsRound room round
    → are_rising (ids_of round.after.elements) ≡ true
round-rises room round rises is =
    subst (λ (new : RoomState). are_rising (ids_of new.elements) ≡ true) (sym is.after)
    (after-rises room round.stepped round.happening rises is.stepped)

-- ---- the end of a room is one
-- the end, by what ended the room by its counts, and whether an event was given that was not stepped
abbrev end-by : Option ServeEnd → Bool → ServeEnd
end-by (Some end) full = end
end-by None true = LinksFull
end-by None false = LinkFault

record Ending (limits : RoomLimits) (now : Serving) (last : Option LinkEvent) (new : RoomState) (end : ServeEnd) :
    Type 0 where
  cause : end-by (end_of limits now) (is_some last) ≡ end
  room : new ≡ now.room

ending : (limits : RoomLimits) (now : Serving) (last : Option LinkEvent) (new : RoomState) (tries : List Try)
    (end : ServeEnd) → end ≢ Memory → EndsBy limits now last new tries end
    → Ending limits now last new end
ending limits now last new tries AllClosed whole ends =
    record { cause = ap (λ (by : Option ServeEnd). end-by by (is_some last)) ends.0; room = ends.2 }
ending limits now last new tries IdleEnd whole ends =
    record { cause = ap (λ (by : Option ServeEnd). end-by by (is_some last)) ends.0; room = ends.2 }
ending limits now last new tries EventsFull whole ends =
    record { cause = ap (λ (by : Option ServeEnd). end-by by (is_some last)) ends.0; room = ends.2 }
ending limits now last new tries LinkFault whole ends =
    record {
      cause = ap₂ (λ (by : Option ServeEnd) (given : Option LinkEvent). end-by by (is_some given)) ends.0 ends.1;
      room = ends.2;
    }
ending limits now last new tries LinksFull whole ends =
    record {
      cause = ap₂ (λ (by : Option ServeEnd) (given : Option LinkEvent). end-by by (is_some given)) ends.0
          ends.2.1;
      room = ends.3;
    }
ending limits now last new tries Memory whole ends = absurd (whole refl)

same-some : (a b : Option LinkEvent) → option_to_list a ≡ option_to_list b → is_some a ≡ is_some b
same-some None None h = refl
same-some None (Some b) h = absurd (nil-cons _ _ h)
same-some (Some a) None h = absurd (nil-cons _ _ (sym h))
same-some (Some a) (Some b) h = refl

-- a room that goes on doesn't end before its next event
not-yet : (limits : RoomLimits) (now : Serving) (last : Option LinkEvent) (new : RoomState) (tries : List Try)
    (end : ServeEnd) (event : LinkEvent) (events : List LinkEvent)
    → end ≢ Memory → end_of limits now ≡ None → now.opened + opening_of event ≤ limits.links
    → option_to_list last ≡ event ∷ events → EndsBy limits now last new tries end → ⊥
not-yet limits now last new tries AllClosed event events whole is within given ends =
    let both : None ≡ Some AllClosed = sym is ∙ ends.0 in cc
not-yet limits now last new tries IdleEnd event events whole is within given ends =
    let both : None ≡ Some IdleEnd = sym is ∙ ends.0 in cc
not-yet limits now last new tries EventsFull event events whole is within given ends =
    let both : None ≡ Some EventsFull = sym is ∙ ends.0 in cc
not-yet limits now last new tries LinkFault event events whole is within given ends =
    nil-cons event events (ap option_to_list (sym ends.1) ∙ given)
not-yet limits now last new tries LinksFull event events whole is within given ends =
    let opens : Opened ends.2.0 ≡ event =
    head-same (Opened ends.2.0) event [] events (ap option_to_list (sym ends.2.1) ∙ given) in
    let one : 1 ≡ opening_of event = ap opening_of opens in
    omega (arith, within, one, ends.1)
not-yet limits now last new tries Memory event events whole is within given ends = whole refl

-- ---- the trace of a room is one
record TraceAlike (ps qs : List Round) (new other : RoomState) (end final : ServeEnd) : Type 0 where
  rounds : ps ≡ qs
  room : new ≡ other
  ends : end ≡ final

traces : (limits : RoomLimits) (now : Serving) (ps qs : List Round) (last also : Option LinkEvent)
    (last_tries also_tries : List Try) (new other : RoomState) (end final : ServeEnd) (n : ℕ)
    → are_rising (ids_of now.room.elements) ≡ true → end ≢ Memory → final ≢ Memory → AreRounds limits now ps
    → EndsBy limits (serving_at now ps) last new last_tries end
    → AreRounds limits now qs → EndsBy limits (serving_at now qs) also other also_tries final
    → events_of ps ++ option_to_list last ≡ events_of qs ++ option_to_list also
    → texts_lost n (tries_of ps ++ last_tries) ≡ texts_lost n (tries_of qs ++ also_tries)
    → TraceAlike ps qs new other end final
traces limits now [] [] last also last_tries also_tries new other end final n rises whole too ps_are ends qs_are
    also_ends events lost =
    let one = ending limits now last new last_tries end whole ends in
    let two = ending limits now also other also_tries final too also_ends in
    record {
      rounds = refl;
      room = one.room ∙ sym two.room;
      ends = sym one.cause
          ∙ ap (end-by (end_of limits now)) (same-some last also events) ∙ two.cause;
    }
traces limits now [] (q ∷ qs) last also last_tries also_tries new other end final n rises whole too ps_are ends qs_are
    also_ends events lost =
    absurd (not-yet limits now last new last_tries end q.event (events_of qs ++ option_to_list also) whole qs_are.0
    qs_are.1 events ends)
traces limits now (p ∷ ps) [] last also last_tries also_tries new other end final n rises whole too ps_are ends qs_are
    also_ends events lost =
    absurd (not-yet limits now also other also_tries final p.event (events_of ps ++ option_to_list last) too ps_are.0
    ps_are.1 (sym events) also_ends)
traces limits now (p ∷ ps) (q ∷ qs) last also last_tries also_tries new other end final n rises whole too ps_are ends
    qs_are also_ends events lost =
    let event : p.event ≡ q.event = head-same _ _ _ _ events in
    let apart : texts_lost n (p.tries ++ (tries_of ps ++ last_tries))
    ≡ texts_lost n (q.tries ++ (tries_of qs ++ also_tries)) =
    ap (texts_lost n) (sym (append_assoc p.tries (tries_of ps) last_tries)) ∙ lost
    ∙ ap (texts_lost n) (append_assoc q.tries (tries_of qs) also_tries) in
    let same = round-once now.room p q (tries_of ps ++ last_tries) (tries_of qs ++ also_tries) n rises ps_are.2 qs_are.2
    event apart in
    let others = traces limits (serving_after now p) ps qs last also last_tries also_tries new other end final
    same.count (round-rises now.room p rises ps_are.2) whole too
    ps_are.3 ends
    (subst (λ (round : Round). AreRounds limits (serving_after now round) qs) (sym same.round) qs_are.3)
    (subst (λ (round : Round). EndsBy limits (serving_at (serving_after now round) qs) also other also_tries final)
    (sym same.round) also_ends)
    (tail-same _ _ _ _ events) same.rest in
    record {
      rounds = ap₂ (λ (round : Round) (rounds : List Round). round ∷ rounds) same.round others.rounds;
      room =
          others.room;
      ends = others.ends;
    }

pub serving-once : (limits : RoomLimits) (now : Serving) (new other : RoomState) (before after : LinksEnd)
    (end final : ServeEnd) → are_rising (ids_of now.room.elements) ≡ true
    → TellAll before → end ≢ Memory → final ≢ Memory
    → (one : IsServed limits now new before after end) (two : IsServed limits now other before after final)
    → (one.rounds ≡ two.rounds) × (new ≡ other) × (end ≡ final)
serving-once limits now new other before after end final rises tell whole too one two =
    let lost = lost-once before.sent before.lost after.lost (tries_of one.rounds ++ one.last_tries) (tries_of two.rounds
    ++ two.last_tries) tell.sent tell.lost one.told.lost two.told.lost in
    let same = traces limits now one.rounds two.rounds one.last two.last one.last_tries two.last_tries new other end
    final lost.0 rises whole too
    one.are_rounds one.ended two.are_rounds two.ended
    (told-once before.given after.given (events_of one.rounds ++ option_to_list one.last) (events_of two.rounds
    ++ option_to_list two.last) tell.given one.told.given two.told.given) lost.1 in
    (same.rounds, same.room, same.ends)
