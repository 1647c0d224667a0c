-- Events that bring a durable room to a close end it so.
use Rattle.std.proofs.Common.{◌≡◌, ◌⊎◌, inl, inr, ℕ, ◌+◌, ◌≤◌, List, [], ◌∷◌, ◌++◌, map, Option, Some, None, option_to_list, refl, sym, ap, ap₂, subst, ◌∙◌, append_assoc, Ok, Err, arith}
use Rattle.std.specs.Option.{option_map}
use Rattle.std.proofs.lemmas.List.{map-append}
use Rattle.board_ends.specs.Ends.{LinksEnd, SinkEnd}
use Rattle.board_ends.specs.Events.{opening_of}
use Rattle.board_ends.specs.declared.links.LinkEvent.{LinkEvent}
use Rattle.board_ends.specs.declared.links.LinkEvent.TheVariants.{Opened}
use Rattle.room_msg.specs.declared.message.Message.TheVariants.{Init, Update, Presence}
use Rattle.room_core.specs.Rooms.{RoomState, Happening, Joined, Heard, Left, Nothing, IsHeardAs, joined_after, texts_of, without}
use Rattle.room_core.specs.Serving.{Serving, Round, at_start, end_of, idles_after, serving_after, serving_at, step_count}
use Rattle.room_core.specs.Told.{Try, links_gone, texts_lost}
use Rattle.room_core.specs.declared.limits.RoomLimits.{RoomLimits}
use Rattle.room_core.specs.declared.limits.ServeEnd.TheVariants as serve
use Rattle.room_core.proofs.CallerLemmas.{Alike, events_of, head-same, hearing-once, link_of, links_of, lost-alike, lost-once, same-end, same-links, tail-same, told-once, tried-links, tries_of}
use Rattle.scene_file.specs.Heads.{Heading}
use Rattle.room_disk.specs.Closing.{LeadToKeptClose}
use Rattle.room_disk.specs.Keeping.{Last, AreKeptRounds, EndsKept, IsKept, IsKeptRound, count_after, count_at, keep_end, kept_texts, step_texts}
use Rattle.room_disk.specs.declared.keep_end.KeepEnd.{KeepEnd}
use Rattle.room_disk.specs.declared.keep_end.KeepEnd.TheVariants.{AllClosed, Idle as IdleEnd, LinkFault, LinksFull, EventsFull, JournalFault, Memory}

-- ---- which links a step sends texts to
kept-links : (n m : ℕ) (happening : Happening) → links_of (kept_texts n happening) ≡ links_of (kept_texts m happening)
kept-links n m (Joined link) = refl
kept-links n m (Heard link (Ok (Init elements))) = refl
kept-links n m (Heard link (Ok (Update elements))) = refl
kept-links n m (Heard link (Ok (Presence value))) = refl
kept-links n m (Heard link (Err fault)) = refl
kept-links n m (Left links) = refl
kept-links n m Nothing = refl

-- they rest on the joined links alone
step-links : (a b : RoomState) (n m : ℕ) (happening : Happening) → a.joined ≡ b.joined
    → links_of (step_texts n a happening) ≡ links_of (step_texts m b happening)
step-links a b n m happening same =
    map-append (λ (text : ℕ × List ℕ). text.0) (texts_of a happening) (kept_texts n happening)
    ∙ ap₂ (λ (xs ys : List ℕ). xs ++ ys) (same-links a b happening same) (kept-links n m happening)
    ∙ sym (map-append (λ (text : ℕ × List ℕ). text.0) (texts_of b happening) (kept_texts m happening))

-- a round of the same event, of whose texts the same were lost, leaves two rooms alike
alike-after : (a b : Serving) (n m : ℕ) (p q : Round) → Alike a b → p.event ≡ q.event → IsKeptRound n a.room p
    → IsKeptRound m b.room q → p.happening ≡ q.happening
    → links_gone p.tries ≡ links_gone q.tries → Alike (serving_after a p) (serving_after b q)
alike-after a b n m p q alike event one two happening gone = record {
  opened = ap₂ (λ (n m : ℕ). n + m) alike.opened (ap opening_of event);
  stepped = ap₂ (λ (n m : ℕ). n + m) alike.stepped (ap step_count event);
  idles = ap₂ idles_after alike.idles event;
  joined = ap (λ (room : RoomState). room.joined) one.after
      ∙ ap₂ without (one.stepped.joined ∙ ap₂ joined_after alike.joined happening ∙ sym two.stepped.joined) gone
      ∙ sym (ap (λ (room : RoomState). room.joined) two.after);
}

-- ---- ends
abbrev pub EndsClosed : KeepEnd → Type 0
EndsClosed end = (end ≡ AllClosed) ⊎ ((end ≡ Memory) ⊎ ((end ≡ LinkFault) ⊎ (end ≡ JournalFault)))

-- a room that is closed ends so
ends-closed : (limits : RoomLimits) (now : Serving) (count : ℕ) (last : Last) (new : RoomState) (end : KeepEnd)
    → end_of limits now ≡ Some serve.AllClosed → EndsKept limits now count last new end → EndsClosed end
ends-closed limits now count last new AllClosed is ends = inl refl
ends-closed limits now count last new IdleEnd is ends =
    let both : Some AllClosed ≡ Some IdleEnd = sym (ap (option_map keep_end) is) ∙ ends.0 in absurd cc
ends-closed limits now count last new LinkFault is ends = inr (inr (inl refl))
ends-closed limits now count last new LinksFull is ends =
    let both : Some serve.AllClosed ≡ None = sym is ∙ ends.0 in absurd cc
ends-closed limits now count last new EventsFull is ends =
    let both : Some AllClosed ≡ Some EventsFull = sym (ap (option_map keep_end) is) ∙ ends.0 in absurd cc
ends-closed limits now count last new JournalFault is ends = inr (inr (inr refl))
ends-closed limits now count last new Memory is ends = inr (inl refl)

-- a room that goes on doesn't end before its next event, but for want of memory and where an end fails
ends-early : (limits : RoomLimits) (now : Serving) (count : ℕ) (last : Last) (new : RoomState) (end : KeepEnd)
    (event : LinkEvent) (events : List LinkEvent)
    → end_of limits now ≡ None → now.opened + opening_of event ≤ limits.links
    → option_to_list last.event ≡ event ∷ events
    → EndsKept limits now count last new end → EndsClosed end
ends-early limits now count last new AllClosed event events is within given ends = inl refl
ends-early limits now count last new IdleEnd event events is within given ends =
    let both : None ≡ Some IdleEnd = sym (ap (option_map keep_end) is) ∙ ends.0 in absurd cc
ends-early limits now count last new LinkFault event events is within given ends = inr (inr (inl refl))
ends-early limits now count last new LinksFull event events is within given ends =
    let opens : Opened ends.2.0 ≡ event = head-same (Opened ends.2.0) event [] events
    (ap (λ (l : Last). option_to_list l.event) (sym ends.2.1) ∙ given) in
    let one : 1 ≡ opening_of event = ap opening_of opens in
    absurd (omega (arith, within, one, ends.1))
ends-early limits now count last new EventsFull event events is within given ends =
    let both : None ≡ Some EventsFull = sym (ap (option_map keep_end) is) ∙ ends.0 in absurd cc
ends-early limits now count last new JournalFault event events is within given ends = inr (inr (inr refl))
ends-early limits now count last new Memory event events is within given ends = inr (inl refl)

-- Rounds that lead to a close, and those that were made, of a room with the same joined links.
closes : (limits : RoomLimits) (a b : Serving) (n m : ℕ) (ps qs : List Round) (more : List LinkEvent)
    (more_tries : List Try) (last : Last) (new : RoomState) (end : KeepEnd) (k : ℕ) → Alike a b
    → AreKeptRounds limits a n ps → end_of limits (serving_at a ps) ≡ Some serve.AllClosed
    → AreKeptRounds limits b m qs → EndsKept limits (serving_at b qs) (count_at m qs) last new end
    → events_of qs ++ option_to_list last.event ≡ events_of ps ++ more
    → texts_lost k (tries_of qs ++ last.tries) ≡ texts_lost k (tries_of ps ++ more_tries) → EndsClosed end
closes limits a b n m [] [] more more_tries last new end k alike ps_are closed qs_are ends events lost =
    ends-closed limits b m last new end (sym (same-end limits a b alike) ∙ closed) ends
closes limits a b n m [] (q ∷ qs) more more_tries last new end k alike ps_are closed qs_are ends events lost =
    let both : None ≡ Some serve.AllClosed = sym qs_are.0 ∙ sym (same-end limits a b alike) ∙ closed in absurd cc
closes limits a b n m (p ∷ ps) [] more more_tries last new end k alike ps_are closed qs_are ends events lost =
    ends-early limits b m last new end p.event (events_of ps ++ more) (sym (same-end limits a b alike) ∙ ps_are.0)
    (subst (λ opened. opened + opening_of p.event ≤ limits.links) alike.opened ps_are.1) events ends
closes limits a b n m (p ∷ ps) (q ∷ qs) more more_tries last new end k alike ps_are closed qs_are ends events lost =
    let event : q.event ≡ p.event = head-same _ _ _ _ events in
    let heard : IsHeardAs a.room.joined p.event q.happening =
    subst (λ e. IsHeardAs a.room.joined e q.happening) event
    (subst (λ joined. IsHeardAs joined q.event q.happening) (sym alike.joined) qs_are.2.heard) in
    let happening : p.happening ≡ q.happening =
    hearing-once a.room.joined p.event p.happening q.happening ps_are.2.heard heard in
    let links : map link_of q.tries ≡ map link_of p.tries =
    tried-links q.tries ∙ ap links_of qs_are.2.tried
    ∙ sym (step-links a.room b.room n m q.happening alike.joined)
    ∙ ap (λ h. links_of (step_texts n a.room h)) (sym happening) ∙ sym (ap links_of ps_are.2.tried)
    ∙ sym (tried-links p.tries) in
    let apart : texts_lost k (q.tries ++ (tries_of qs ++ last.tries))
    ≡ texts_lost k (p.tries ++ (tries_of ps ++ more_tries)) =
    ap (texts_lost k) (sym (append_assoc q.tries (tries_of qs) last.tries)) ∙ lost
    ∙ ap (texts_lost k) (append_assoc p.tries (tries_of ps) more_tries) in
    let same = lost-alike k q.tries p.tries (tries_of qs ++ last.tries) (tries_of ps ++ more_tries) links apart in
    closes limits (serving_after a p) (serving_after b q) (count_after n p) (count_after m q) ps qs more more_tries last
    new end same.count
    (alike-after a b n m p q alike (sym event) ps_are.2 qs_are.2 happening (sym same.gone)) ps_are.3 closed qs_are.3
    ends (tail-same _ _ _ _ events) same.rest

pub kept-closing : (limits : RoomLimits) (head : Heading) (port : ℕ) (first other new : RoomState)
    (before after : LinksEnd) (journal journal_after : SinkEnd) (end : KeepEnd) → first.joined ≡ other.joined
    → LeadToKeptClose limits (at_start first) before after
    → IsKept limits head port other new before after journal journal_after end → EndsClosed end
kept-closing limits head port first other new before after journal journal_after end joined leads kept =
    let account = kept.account in
    let lost = lost-once before.sent before.lost after.lost (tries_of account.rounds ++ account.last.tries)
    (tries_of leads.rounds ++ leads.more_tries) leads.tell.sent leads.tell.lost kept.told.lost leads.told.lost in
    closes limits (at_start first) (at_start other) 0 0 leads.rounds account.rounds leads.more leads.more_tries
    account.last new end lost.0
    (record { opened = refl; stepped = refl; idles = refl; joined = joined }) leads.are_rounds leads.closed
    kept.is.are_rounds kept.is.ended
    (told-once before.given after.given (events_of account.rounds ++ option_to_list account.last.event)
    (events_of leads.rounds ++ leads.more) leads.tell.given kept.told.given leads.told.given) lost.1
