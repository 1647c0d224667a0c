-- How a durable room goes on and ends.
use Rattle.std.proofs.Common.{◌≡◌, ℕ, ◌+◌, ◌<◌, ◌≤◌, Bool, true, false, cond, ◌&&◌, [], ◌∷◌, ◌++◌, length, map, option_to_list, Option, Some, None, nat_lt, nat_le, inl, refl, sym, ap, subst, ◌∙◌, append_assoc, arith}
use Rattle.std.specs.Option.{option_map}
use Rattle.std.proofs.lemmas.List.{map-append}
use Rattle.board_ends.specs.Ends.{LinksEnd, SinkEnd, Took, IsSynced}
use Rattle.board_ends.specs.Events.{opening_of}
use Rattle.board_ends.specs.declared.links.LinkEvent.{LinkEvent}
use Rattle.board_ends.specs.declared.links.LinkEvent.TheVariants.{Opened}
use Rattle.room_core.specs.Rooms.{RoomState}
use Rattle.room_core.specs.Serving.{Serving, Round, end_of, idles_after, is_none_joined, serving_after, serving_at, serving_of, step_count}
use Rattle.room_core.specs.Told.{Tells}
use Rattle.room_core.specs.declared.limits.RoomLimits.{RoomLimits}
use Rattle.room_core.specs.declared.limits.ServeEnd.{ServeEnd}
use Rattle.room_core.specs.declared.limits.ServeEnd.TheVariants as serve
use Rattle.room_core.specs.declared.tally.Tally.{Tally}
use Rattle.room_core.proofs.CallerLemmas.{below_limits, fewer, left_of, tells-nothing, tells-twice}
use Rattle.room_disk.specs.Keeping.{Account, Last, AreKeptRounds, EndsKept, HasGained, count_at, keep_end, messages_heard, messages_in, messages_of, messages_told, untouched}
use Rattle.room_disk.specs.Records.{bytes_of, update_record}
use Rattle.room_disk.specs.declared.keep_end.KeepEnd.{KeepEnd}
use Rattle.room_disk.specs.declared.keep_end.KeepEnd.TheVariants.{AllClosed, Idle as IdleEnd, LinkFault, LinksFull, EventsFull, JournalFault, Memory}
use Rattle.room_disk.specs.inner.KeptSteps.{IsKeptEvent, IsKeptOn, IsKeptStep, IsSafeBy, IsStoppedBy, IsStoppedEvent}
use Rattle.input_texts.proofs.CallerLemmas.{took-none}
use Rattle.room_disk.proofs.Gains.{all-behind, gained-all, gained-behind, safe-all, safe-records}
use Rattle.room_disk.proofs.KeptEvents.{few_steps}

-- ---- what the tally ends a room by
abbrev chosen : Bool → Bool → Bool → Option ServeEnd
chosen closed full idle =
    cond closed (Some serve.AllClosed) (cond full (Some serve.EventsFull) (cond idle (Some serve.Idle) None))

abbrev pub IsCounted : ServeEnd → Type 0
IsCounted serve.AllClosed = Unit {0}
IsCounted serve.Idle = Unit {0}
IsCounted serve.EventsFull = Unit {0}
IsCounted serve.LinkFault = ⊥
IsCounted serve.LinksFull = ⊥
IsCounted serve.Memory = ⊥

counted_same : (one end : ServeEnd) → Some one ≡ Some end → one ≡ end
counted_same one end is = cc

by_counts : (closed full idle : Bool) (end : ServeEnd) → chosen closed full idle ≡ Some end → IsCounted end
by_counts true full idle end is = subst IsCounted (counted_same serve.AllClosed end is) tt
by_counts false true idle end is = subst IsCounted (counted_same serve.EventsFull end is) tt
by_counts false false true end is = subst IsCounted (counted_same serve.Idle end is) tt
by_counts false false false end is = absurd cc

pub counted : (limits : RoomLimits) (now : Serving) (end : ServeEnd) → end_of limits now ≡ Some end → IsCounted end
counted limits now end is =
    by_counts (nat_lt 0 now.opened && is_none_joined now.room.joined) (nat_le limits.events now.stepped)
    (nat_le limits.idle now.idles) end is

-- ---- an account without rounds
module _ (limits : RoomLimits) (now : Serving) (running : end_of limits now ≡ None) (count : ℕ) (a b : LinksEnd)
    (ja jb : SinkEnd) where
  -- nothing was made of what came last
  kept-quiet : (event : Option LinkEvent) (end : KeepEnd) → Tells a b (option_to_list event) [] → jb ≡ ja → IsSynced ja
      → EndsKept limits now count (untouched event) now.room end
      → IsKeptOn limits now count now.room a b ja jb end
  kept-quiet event end told quiet synced ended = record {
    account = record { rounds = []; last = untouched event };
    is = record { are_rounds = tt; ended = ended };
    told = told;
    gained = gained-all [] ja jb (rw quiet (took-none ja));
    whole = λ _. rw quiet (took-none ja);
    safe = rw quiet (safe-all ja ja [] (took-none ja) synced);
  }

  pub kept-fault : Tells a b [] [] → jb ≡ ja → IsSynced ja → IsKeptOn limits now count now.room a b ja jb LinkFault
  kept-fault told quiet synced = kept-quiet None LinkFault told quiet synced (running, refl, refl)

  pub kept-memory : Tells a b [] [] → jb ≡ ja → IsSynced ja → IsKeptOn limits now count now.room a b ja jb Memory
  kept-memory told quiet synced = kept-quiet None Memory told quiet synced (running, inl (refl, refl))

  pub kept-full : (link : ℕ) (event : LinkEvent) → event ≡ Opened link → now.opened ≡ limits.links
      → Tells a b (event ∷ []) [] → jb ≡ ja → IsSynced ja
      → IsKeptOn limits now count now.room a b ja jb LinksFull
  kept-full link event opens full told quiet synced =
      kept-quiet (Some event) LinksFull told quiet synced (
        running,
        full,
        (link, ap (λ e. untouched (Some e)) opens),
        refl,
      )

  stopped_ends : (last : Last) (new : RoomState) (end : KeepEnd) → IsStoppedBy count now.room last new end
      → EndsKept limits now count last new end
  stopped_ends last new JournalFault stopped = (running, stopped.0, stopped.1)
  stopped_ends last new Memory stopped = (running, stopped)
  stopped_ends last new AllClosed stopped = absurd stopped
  stopped_ends last new IdleEnd stopped = absurd stopped
  stopped_ends last new LinkFault stopped = absurd stopped
  stopped_ends last new LinksFull stopped = absurd stopped
  stopped_ends last new EventsFull stopped = absurd stopped

  -- an event that wasn't stepped whole
  pub kept-stopped : (event : LinkEvent) (new : RoomState) (c : LinksEnd) (end : KeepEnd) → Tells a c (event ∷ []) []
      → IsStoppedEvent now.room count event new c b ja jb end
      → IsKeptOn limits now count new a b ja jb end
  kept-stopped event new c end told stopped = record {
    account = record { rounds = []; last = stopped.last };
    is = record { are_rounds = tt; ended = stopped_ends stopped.last new end stopped.stopped };
    told = subst (λ events. Tells a b (option_to_list events) stopped.last.tries) (sym stopped.of)
        (tells-twice a c b (event ∷ []) [] [] stopped.last.tries told stopped.told);
    gained = stopped.taken.gained;
    whole = stopped.taken.whole;
    safe = stopped.taken.safe;
  }

-- what ends a room that no event is stepped in any more
pub ends_here : (limits : RoomLimits) (now : Serving) (count : ℕ) (end : ServeEnd) → IsCounted end
    → end_of limits now ≡ Some end → EndsKept limits now count (untouched None) now.room (keep_end end)
ends_here limits now count serve.AllClosed some is = (ap (option_map keep_end) is, refl, refl)
ends_here limits now count serve.Idle some is = (ap (option_map keep_end) is, refl, refl)
ends_here limits now count serve.EventsFull some is = (ap (option_map keep_end) is, refl, refl)
ends_here limits now count serve.LinkFault some is = absurd some
ends_here limits now count serve.LinksFull some is = absurd some
ends_here limits now count serve.Memory some is = absurd some

pub kept-here : (limits : RoomLimits) (now : Serving) (count : ℕ) (a : LinksEnd) (ja : SinkEnd) (end : ServeEnd)
    → end_of limits now ≡ Some end → IsSynced ja
    → IsKeptOn limits now count now.room a a ja ja (keep_end end)
kept-here limits now count a ja end is synced = record {
  account = record { rounds = []; last = untouched None };
  is = record {
    are_rounds = tt;
    ended = ends_here limits now count end (counted limits now end is) is;
  };
  told = tells-nothing a a refl refl refl;
  gained = gained-all [] ja ja (took-none ja);
  whole = λ _. took-none ja;
  safe = safe-all ja ja [] (took-none ja) synced;
}

-- ---- one round, and what comes after it
module _ (round : Round) (account : Account) where
  abbrev more : Account
  more = record { rounds = round ∷ account.rounds; last = account.last }

  heard_more : messages_heard more ≡ messages_in round.happening ++ messages_heard account
  heard_more = append_assoc (messages_in round.happening) (messages_of account.rounds) account.last.messages

  records_more : map update_record (messages_in round.happening) ++ map update_record (messages_heard account)
      ≡ map update_record (messages_heard more)
  records_more = sym (map-append update_record (messages_in round.happening) (messages_heard account))
      ∙ ap (map update_record) (sym heard_more)

  told_more : map update_record (messages_in round.happening) ++ map update_record (messages_told account)
      ≡ map update_record (messages_told more)
  told_more = sym (map-append update_record (messages_in round.happening) (messages_told account))
      ∙ ap (map update_record) (sym (append_assoc (messages_in round.happening) (messages_of account.rounds) _))

pub kept-then : (limits : RoomLimits) (now : Serving) → end_of limits now ≡ None
    → (next : Serving) (count counted : ℕ) (new : RoomState) (a b c : LinksEnd) (ja jb jc : SinkEnd) (end : KeepEnd)
    → IsKeptStep limits now next count counted a b ja jb → IsKeptOn limits next counted new b c jb jc end
    → IsKeptOn limits now count new a c ja jc end
kept-then limits now running next count counted new a b c ja jb jc end one others =
    let account = others.account in
    let rounds = account.rounds in
    let mine = messages_in one.round.happening in
    record {
      account = more one.round account;
      is = record {
        are_rounds = (
          running,
          one.within,
          one.is_round,
          subst (λ n. AreKeptRounds limits (serving_after now one.round) n rounds) one.count_is
              (subst (λ s. AreKeptRounds limits s counted rounds) one.follows others.is.are_rounds),
        );
        ended = subst (λ n. EndsKept limits (serving_at (serving_after now one.round) rounds) (count_at n rounds)
            account.last new end) one.count_is
            (subst (λ s. EndsKept limits (serving_at s rounds) (count_at counted rounds) account.last new end)
            one.follows others.is.ended);
      };
      told = rw (append_assoc one.round.tries) (tells-twice a b c (one.round.event ∷ []) _ one.round.tries _ one.told
          others.told);
      gained = subst (λ records. HasGained records ja jc) (records_more one.round account)
          (gained-behind (map update_record mine) (map update_record (messages_heard account)) ja jb jc one.took
          others.gained);
      whole = λ sound. subst (λ records. Took ja jc (bytes_of records)) (records_more one.round account)
          (all-behind (map update_record mine) (map update_record (messages_heard account)) ja jb jc one.took
          (others.whole sound));
      safe = subst (λ records. IsSafeBy ja jc (bytes_of records)) (told_more one.round account)
          (safe-records (map update_record mine) (map update_record (messages_told account)) ja jb jc one.took
          others.safe);
    }

-- ---- an event that was kept and served whole is one step
pub kept-step : (limits : RoomLimits) (room new : RoomState) (old tally : Tally) (count counted : ℕ) (event : LinkEvent)
    (a b c : LinksEnd) (ja jb : SinkEnd)
    → old.opened + opening_of event ≤ limits.links → tally.opened ≡ old.opened + opening_of event
    → tally.stepped ≡ old.stepped + step_count event → tally.idles ≡ idles_after old.idles event
    → Tells a b (event ∷ []) [] → IsKeptEvent room count event new counted b c ja jb
    → IsKeptStep limits (serving_of room old) (serving_of new tally) count counted a c ja jb
kept-step limits room new old tally count counted event a b c ja jb within opened stepped idles told one = record {
  round = one.round;
  within = rw one.of within;
  is_round = one.is_round;
  follows = rw (one.room_after, opened, stepped, idles, one.of) refl;
  count_is = one.count_is;
  told = rw one.of (tells-twice a b c (event ∷ []) [] [] one.round.tries told one.told);
  took = one.took;
  synced = one.synced;
}

-- it brings the room nearer to its end
pub left-falls : (limits : RoomLimits) (now next : Serving) (count counted : ℕ) (a b : LinksEnd) (ja jb : SinkEnd)
    → end_of limits now ≡ None → IsKeptStep limits now next count counted a b ja jb
    → left_of limits next < left_of limits now
left-falls limits now next count counted a b ja jb running one =
    let below = below_limits limits now running in
    rw one.follows (fewer limits.events limits.idle now.stepped now.idles one.round.event below.0 below.1)

-- and at most as many messages are kept as events are stepped
pub few-more : (room new : RoomState) (count counted stepped : ℕ) (event : LinkEvent) (a b : LinksEnd) (ja jb : SinkEnd)
    → IsKeptEvent room count event new counted a b ja jb → count ≤ stepped
    → counted ≤ stepped + step_count event
few-more room new count counted stepped event a b ja jb one few =
    let steps = subst (λ (e : LinkEvent). length (messages_in one.round.happening) ≤ step_count e) one.of
    (few_steps room.joined one.round.event one.round.happening one.is_round.heard) in
    omega (arith, few, steps, one.count_is)
