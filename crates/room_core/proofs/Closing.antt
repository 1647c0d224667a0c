-- Events that bring a room to a close end it so.
use Rattle.std.proofs.Common.{◌≡◌, ◌⊎◌, inl, inr, ℕ, ◌+◌, ◌≤◌, Bool, true, false, List, [], ◌∷◌, ◌++◌, map, flat_map, Option, Some, None, IsSome, IfSome, option_map, option_to_list, length, refl, sym, ap, ap₂, subst, ◌∙◌, append_assoc, Ok, Err, arith}
use Rattle.std.proofs.lemmas.List.{append_cancel_left}
use Rattle.board_ends.specs.Events.{opening_of}
use Rattle.board_ends.specs.declared.links.LinkEvent.{LinkEvent}
use Rattle.board_ends.specs.declared.links.LinkEvent.TheVariants.{Opened}
use Rattle.room_msg.specs.Texts.{message_text}
use Rattle.room_core.specs.Closing.{LeadToClose}
use Rattle.room_core.specs.Rooms.{RoomState, Happening, Joined, Heard, Left, Nothing, IsHeardAs, joined_after, texts_of, text_for_each, without}
use Rattle.room_core.specs.Serving.{Serving, Round, IsRound, AreRounds, EndsBy, IsServed, at_start, end_of, idles_after, serving_after, serving_at, step_count}
use Rattle.board_ends.specs.Ends.{LinksEnd}
use Rattle.room_core.specs.Told.{Try, links_gone, texts_lost, texts_tried}
use Rattle.room_core.specs.declared.limits.RoomLimits.{RoomLimits}
use Rattle.room_core.specs.declared.limits.ServeEnd.{ServeEnd}
use Rattle.room_core.specs.declared.limits.ServeEnd.TheVariants.{AllClosed, Idle as IdleEnd, LinkFault, LinksFull, EventsFull, Memory}
use Rattle.room_core.proofs.MemberLaws.{hearing-once}

abbrev pub link_of : Try → ℕ
link_of try = try.link

abbrev pub links_of : List (ℕ × List ℕ) → List ℕ
links_of texts = map (λ (text : ℕ × List ℕ). text.0) texts

-- the links of the texts that were tried
pub tried-links : (tries : List Try) → map link_of tries ≡ links_of (texts_tried tries)
tried-links [] = refl
tried-links (try ∷ tries) = ap (λ links. try.link ∷ links) (tried-links tries)

-- which links a room sends texts to rests on its joined links alone
pub same-links : (a b : RoomState) (happening : Happening) → a.joined ≡ b.joined
    → links_of (texts_of a happening) ≡ links_of (texts_of b happening)
same-links a b (Joined link) same = refl
same-links a b (Heard link (Ok message)) same =
    ap (λ joined. links_of (text_for_each (without joined (link ∷ [])) (message_text message))) same
same-links a b (Heard link (Err fault)) same = refl
same-links a b (Left links) same = refl
same-links a b Nothing same = refl

pub nil-cons : {X : Type 0} (x : X) (xs : List X) → [] ≡ x ∷ xs → ⊥
nil-cons x xs h = cc

pub head-same : {X : Type 0} (x y : X) (xs ys : List X) → x ∷ xs ≡ y ∷ ys → x ≡ y
head-same x y xs ys h = cc

pub tail-same : {X : Type 0} (x y : X) (xs ys : List X) → x ∷ xs ≡ y ∷ ys → xs ≡ ys
tail-same x y xs ys h = cc

-- what is lost from a count on is lost at no lower count
pub lost-later : (n : ℕ) (tries : List Try) (x : ℕ × ℕ) (lost : List (ℕ × ℕ)) → texts_lost n tries ≡ x ∷ lost → n ≤ x.0
lost-later n [] x lost is = absurd (nil-cons x lost is)
lost-later n (try ∷ tries) x lost is = by (lost-later (n + 1) tries x lost) try.is_sent refl
  where
    by : (texts_lost (n + 1) tries ≡ x ∷ lost → n + 1 ≤ x.0) → (b : Bool) → try.is_sent ≡ b → n ≤ x.0
    by others true sent = let later = others (rw sent at is) in omega (arith, later)
    by others false gone =
        let first : n ≡ x.0 =
        ap (λ (p : ℕ × ℕ). p.0) (head-same (n, try.link) x (texts_lost n tries) lost (rw gone at is)) in
        omega (arith, first)

-- Of texts to the same links, of which the same were lost, the same links were gone.
pub record LostAlike (ts us r s : List Try) : Type 0 where
  pub gone : links_gone ts ≡ links_gone us
  pub count : ℕ
  pub rest : texts_lost count r ≡ texts_lost count s

one-sent : (t : Try) (ts : List Try) → t.is_sent ≡ true → links_gone (t ∷ ts) ≡ links_gone ts
one-sent t ts is = rw is refl

one-gone : (t : Try) (ts : List Try) → t.is_sent ≡ false → links_gone (t ∷ ts) ≡ t.link ∷ links_gone ts
one-gone t ts is = rw is refl

pub lost-alike : (n : ℕ) (ts us r s : List Try) → map link_of ts ≡ map link_of us
    → texts_lost n (ts ++ r) ≡ texts_lost n (us ++ s) → LostAlike ts us r s
lost-alike n [] [] r s links lost = record { gone = refl; count = n; rest = lost }
lost-alike n [] (u ∷ us) r s links lost = absurd (nil-cons _ _ links)
lost-alike n (t ∷ ts) [] r s links lost = absurd (nil-cons _ _ (sym links))
lost-alike n (t ∷ ts) (u ∷ us) r s links lost =
    by (λ m. lost-alike m ts us r s (tail-same t.link u.link (map link_of ts) (map link_of us) links)) t.is_sent
    u.is_sent refl refl
  where
    by : ((m : ℕ) → texts_lost m (ts ++ r) ≡ texts_lost m (us ++ s) → LostAlike ts us r s) → (b c : Bool)
        → t.is_sent ≡ b → u.is_sent ≡ c
        → LostAlike (t ∷ ts) (u ∷ us) r s
    by more true true one two =
        let others = more (n + 1) (rw (one, two) at lost) in
        record {
          gone = one-sent t ts one ∙ others.gone ∙ sym (one-sent u us two);
          count = others.count;
          rest =
              others.rest;
        }
    by more false false one two =
        let others = more n (tail-same _ _ _ _ (rw (one, two) at lost)) in
        record {
          gone = one-gone t ts one ∙ ap₂ (λ (link : ℕ) (links : List ℕ). link ∷ links)
              (head-same t.link u.link _ _ links) others.gone ∙ sym (one-gone u us two);
          count = others.count;
          rest = others.rest;
        }
    by more true false one two =
        let later = lost-later (n + 1) (ts ++ r) (n, u.link) (texts_lost n (us ++ s)) (rw (one, two) at lost) in
        absurd (omega (arith, later))
    by more false true one two =
        let later = lost-later (n + 1) (us ++ s) (n, t.link) (texts_lost n (ts ++ r)) (sym (rw (one, two) at lost)) in
        absurd (omega (arith, later))

-- Two rooms under way have the same counts and the same joined links.
pub record Alike (a b : Serving) : Type 0 where
  pub opened : a.opened ≡ b.opened
  pub stepped : a.stepped ≡ b.stepped
  pub idles : a.idles ≡ b.idles
  pub joined : a.room.joined ≡ b.room.joined

pub same-end : (limits : RoomLimits) (a b : Serving) → Alike a b → end_of limits a ≡ end_of limits b
same-end limits a b alike = rw (alike.opened, alike.stepped, alike.idles, alike.joined) refl

-- a round of the same event, of whose texts the same were lost, leaves them so
alike-after : (a b : Serving) (p q : Round) → Alike a b → p.event ≡ q.event → IsRound a.room p → IsRound b.room q
    → p.happening ≡ q.happening
    → links_gone p.tries ≡ links_gone q.tries → Alike (serving_after a p) (serving_after b q)
alike-after a b p q alike event one two happening gone = record {
  opened = ap₂ (λ (n m : ℕ). n + m) alike.opened (ap opening_of event);
  stepped = ap₂ (λ (n m : ℕ). n + m) alike.stepped (ap step_count event);
  idles = ap₂ idles_after alike.idles event;
  joined = ap (λ (room : RoomState). room.joined) one.after
      ∙ ap₂ without (one.stepped.joined ∙ ap₂ joined_after alike.joined happening ∙ sym two.stepped.joined) gone
      ∙ sym (ap (λ (room : RoomState). room.joined) two.after);
}

abbrev pub EndsClosed : ServeEnd → Type 0
EndsClosed end = (end ≡ AllClosed) ⊎ ((end ≡ Memory) ⊎ (end ≡ LinkFault))

-- a room that is closed ends so
ends-closed : (limits : RoomLimits) (now : Serving) (last : Option LinkEvent) (new : RoomState) (tries : List Try)
    (end : ServeEnd)
    → end_of limits now ≡ Some AllClosed → EndsBy limits now last new tries end → EndsClosed end
ends-closed limits now last new tries AllClosed is ends = inl refl
ends-closed limits now last new tries IdleEnd is ends =
    let both : Some AllClosed ≡ Some IdleEnd = sym is ∙ ends.0 in absurd cc
ends-closed limits now last new tries LinkFault is ends = inr (inr refl)
ends-closed limits now last new tries LinksFull is ends =
    let both : Some AllClosed ≡ None = sym is ∙ ends.0 in absurd cc
ends-closed limits now last new tries EventsFull is ends =
    let both : Some AllClosed ≡ Some EventsFull = sym is ∙ ends.0 in absurd cc
ends-closed limits now last new tries Memory is ends = inr (inl refl)

-- a room that goes on doesn't end before its next event, but for want of memory and where the links fail
ends-early : (limits : RoomLimits) (now : Serving) (last : Option LinkEvent) (new : RoomState) (tries : List Try)
    (end : ServeEnd) (event : LinkEvent) (events : List LinkEvent)
    → end_of limits now ≡ None → now.opened + opening_of event ≤ limits.links → option_to_list last ≡ event ∷ events
    → EndsBy limits now last new tries end → EndsClosed end
ends-early limits now last new tries AllClosed event events is within given ends = inl refl
ends-early limits now last new tries IdleEnd event events is within given ends =
    let both : None ≡ Some IdleEnd = sym is ∙ ends.0 in absurd cc
ends-early limits now last new tries LinkFault event events is within given ends = inr (inr refl)
ends-early limits now last new tries LinksFull event events is within given ends =
    let opens : Opened ends.2.0 ≡ event =
    head-same (Opened ends.2.0) event [] events (ap option_to_list (sym ends.2.1) ∙ given) in
    let one : 1 ≡ opening_of event = ap opening_of opens in
    absurd (omega (arith, within, one, ends.1))
ends-early limits now last new tries EventsFull event events is within given ends =
    let both : None ≡ Some EventsFull = sym is ∙ ends.0 in absurd cc
ends-early limits now last new tries Memory event events is within given ends = inr (inl refl)

abbrev pub events_of : List Round → List LinkEvent
events_of rounds = map (λ (round : Round). round.event) rounds

abbrev pub tries_of : List Round → List Try
tries_of rounds = flat_map (λ (round : Round). round.tries) rounds

-- Rounds that lead to a close, and those that were made, of a room with the same joined links.
closes : (limits : RoomLimits) (a b : Serving) (ps qs : List Round) (more : List LinkEvent) (more_tries : List Try)
    (last : Option LinkEvent) (last_tries : List Try)
    (new : RoomState) (end : ServeEnd) (n : ℕ) → Alike a b → AreRounds limits a ps
    → end_of limits (serving_at a ps) ≡ Some AllClosed
    → AreRounds limits b qs → EndsBy limits (serving_at b qs) last new last_tries end
    → events_of qs ++ option_to_list last ≡ events_of ps ++ more
    → texts_lost n (tries_of qs ++ last_tries) ≡ texts_lost n (tries_of ps ++ more_tries) → EndsClosed end
closes limits a b [] [] more more_tries last last_tries new end n alike ps_are closed qs_are ends events lost =
    ends-closed limits b last new last_tries end (sym (same-end limits a b alike) ∙ closed) ends
closes limits a b [] (q ∷ qs) more more_tries last last_tries new end n alike ps_are closed qs_are ends events lost =
    let both : None ≡ Some AllClosed = sym qs_are.0 ∙ sym (same-end limits a b alike) ∙ closed in absurd cc
closes limits a b (p ∷ ps) [] more more_tries last last_tries new end n alike ps_are closed qs_are ends events lost =
    ends-early limits b last new last_tries end p.event (events_of ps ++ more) (sym (same-end limits a b alike)
    ∙ ps_are.0)
    (subst (λ opened. opened + opening_of p.event ≤ limits.links) alike.opened ps_are.1) events ends
closes limits a b (p ∷ ps) (q ∷ qs) more more_tries last last_tries new end n alike ps_are closed qs_are ends events
    lost =
    let event : q.event ≡ p.event = head-same _ _ _ _ events in
    let heard : IsHeardAs a.room.joined p.event q.happening =
    subst (λ e. IsHeardAs a.room.joined e q.happening) event
    (subst (λ joined. IsHeardAs joined q.event q.happening) (sym alike.joined) qs_are.2.heard) in
    let happening : p.happening ≡ q.happening =
    hearing-once a.room.joined p.event p.happening q.happening ps_are.2.heard heard in
    let links : map link_of q.tries ≡ map link_of p.tries =
    tried-links q.tries ∙ ap links_of qs_are.2.tried ∙ sym (same-links a.room b.room q.happening alike.joined)
    ∙ ap (λ h. links_of (texts_of a.room h)) (sym happening) ∙ sym (ap links_of ps_are.2.tried)
    ∙ sym (tried-links p.tries) in
    let apart : texts_lost n (q.tries ++ (tries_of qs ++ last_tries))
    ≡ texts_lost n (p.tries ++ (tries_of ps ++ more_tries)) =
    ap (texts_lost n) (sym (append_assoc q.tries (tries_of qs) last_tries)) ∙ lost
    ∙ ap (texts_lost n) (append_assoc p.tries (tries_of ps) more_tries) in
    let same = lost-alike n q.tries p.tries (tries_of qs ++ last_tries) (tries_of ps ++ more_tries) links apart in
    closes limits (serving_after a p) (serving_after b q) ps qs more more_tries last last_tries new end same.count
    (alike-after a b p q alike (sym event) ps_are.2 qs_are.2 happening (sym same.gone)) ps_are.3 closed qs_are.3 ends
    (tail-same _ _ _ _ events) same.rest

-- what is told twice is told once
pub told-once : {X : Type 0} (before after : Option (List X)) (xs ys : List X) → IsSome before
    → after ≡ option_map (λ told. told ++ xs) before → after ≡ option_map (λ told. told ++ ys) before → xs ≡ ys
told-once None after xs ys some one two = cc
told-once (Some told) after xs ys some one two =
    let same : Some (told ++ xs) ≡ Some (told ++ ys) = sym one ∙ two in
    let inside : told ++ xs ≡ told ++ ys = cc in
    append_cancel_left told xs ys inside

pub lost-once : (sent : Option (List (ℕ × List ℕ))) (before after : Option (List (ℕ × ℕ))) (ts us : List Try)
    → IsSome sent → IsSome before
    → IfSome sent (λ texts. after ≡ option_map (λ told. told ++ texts_lost (length texts) ts) before)
    → IfSome sent (λ texts. after ≡ option_map (λ told. told ++ texts_lost (length texts) us) before) → (n : ℕ)
    × (texts_lost n ts ≡ texts_lost n us)
lost-once None before after ts us tells some one two = absurd cc
lost-once (Some texts) before after ts us tells some one two = (length texts, told-once before after _ _ some one two)

pub closing-ends : (limits : RoomLimits) (first other new : RoomState) (before after : LinksEnd) (end : ServeEnd)
    → first.joined ≡ other.joined
    → LeadToClose limits (at_start first) before after → IsServed limits (at_start other) new before after end
    → EndsClosed end
closing-ends limits first other new before after end joined leads served =
    let lost = lost-once before.sent before.lost after.lost (tries_of served.rounds ++ served.last_tries)
    (tries_of leads.rounds ++ leads.more_tries) leads.tell.sent leads.tell.lost served.told.lost leads.told.lost in
    closes limits (at_start first) (at_start other) leads.rounds served.rounds leads.more leads.more_tries served.last
    served.last_tries new end lost.0
    (record { opened = refl; stepped = refl; idles = refl; joined = joined }) leads.are_rounds leads.closed
    served.are_rounds served.ended
    (told-once before.given after.given (events_of served.rounds ++ option_to_list served.last) (events_of leads.rounds
    ++ leads.more) leads.tell.given served.told.given leads.told.given) lost.1
