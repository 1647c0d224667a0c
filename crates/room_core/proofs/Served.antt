-- How a room that is served ends, event by event.
use Rattle.std.proofs.Common.{◌≡◌, ℕ, ◌+◌, ◌-◌, ◌*◌, ◌<◌, ◌≤◌, Bool, true, false, cond, ◌&&◌, List, [], ◌∷◌, Option, Some, None, nat_lt, nat_le, refl, sym, ap, subst, ◌∙◌, append-nil, append_assoc, Result, Ok, Err, is_err, OnOk, OnErr, arith}
use Rattle.std.proofs.lemmas.Bool.{leb-false}
use Rattle.std.proofs.lemmas.Nat.{mul-add-lt}
use Rattle.board_ends.specs.Events.{opening_of}
use Rattle.board_ends.specs.declared.links.LinkEvent.{LinkEvent}
use Rattle.board_ends.specs.declared.links.LinkEvent.TheVariants.{Opened, Text, Closed, Idle}
use Rattle.room_core.specs.Rooms.{RoomState, IsRoomStep, without}
use Rattle.board_ends.specs.Ends.{LinksEnd}
use Rattle.room_core.specs.Told.{HaveTried, Tells, texts_tried}
use Rattle.room_core.specs.Serving.{Serving, AreRounds, EndsBy, IsServed, end_of, serving_of, serving_at, step_count, idles_after, is_none_joined}
use Rattle.room_core.specs.inner.Serving.{IsServedEvent, IsServedRound, IsCutEvent}
use Rattle.room_core.specs.declared.limits.RoomLimits.{RoomLimits}
use Rattle.room_core.specs.declared.limits.ServeEnd.{ServeEnd}
use Rattle.room_core.specs.declared.limits.ServeEnd.TheVariants.{AllClosed, Idle as IdleEnd, LinkFault, LinksFull, EventsFull, Memory}
use Rattle.room_core.specs.declared.tally.Tally.{Tally}
use Rattle.room_core.proofs.Tries.{tells-twice}

-- an event opens one link at most
pub one_opening : (event : LinkEvent) → opening_of event ≤ 1
one_opening (Opened link) = omega arith
one_opening (Text link text) = omega arith
one_opening (Closed link) = omega arith
one_opening Idle = omega arith

-- which of its causes a room ends by
abbrev chosen : Bool → Bool → Bool → Option ServeEnd
chosen closed full idle = cond closed (Some AllClosed) (cond full (Some EventsFull) (cond idle (Some IdleEnd) None))

goes_on : (closed full idle : Bool) → chosen closed full idle ≡ None → (full ≡ false) × (idle ≡ false)
goes_on true full idle h = absurd cc
goes_on false true idle h = absurd cc
goes_on false false true h = absurd cc
goes_on false false false h = (refl, refl)

pub never_fault : (closed full idle : Bool) → chosen closed full idle ≡ Some LinkFault → ⊥
never_fault true full idle h = cc
never_fault false true idle h = cc
never_fault false false true h = cc
never_fault false false false h = cc

pub never_full : (closed full idle : Bool) → chosen closed full idle ≡ Some LinksFull → ⊥
never_full true full idle h = cc
never_full false true idle h = cc
never_full false false true h = cc
never_full false false false h = cc

pub never_memory : (closed full idle : Bool) → chosen closed full idle ≡ Some Memory → ⊥
never_memory true full idle h = cc
never_memory false true idle h = cc
never_memory false false true h = cc
never_memory false false false h = cc

module _ (limits : RoomLimits) (now : Serving) (running : end_of limits now ≡ None) where
  -- before a room ends it is below its limits
  pub below_limits : (now.stepped < limits.events) × (now.idles < limits.idle)
  below_limits =
      let both = goes_on (nat_lt 0 now.opened && is_none_joined now.room.joined) (nat_le limits.events now.stepped)
      (nat_le limits.idle now.idles) running in
      (leb-false _ _ both.0, leb-false _ _ both.1)

  pub ended-memory : (a b : LinksEnd) → Tells a b [] [] → IsServed limits now now.room a b Memory
  ended-memory a b told = record {
    rounds = [];
    are_rounds = tt;
    last = None;
    last_tries = [];
    ended =
        (running, (refl, refl));
    told = told;
  }

  pub ended-full : (link : ℕ) (event : LinkEvent) (a b : LinksEnd) → event ≡ Opened link → now.opened ≡ limits.links
      → Tells a b (event ∷ []) [] → IsServed limits now now.room a b LinksFull
  ended-full link event a b opens full told =
      record {
        rounds = [];
        are_rounds = tt;
        last = Some event;
        last_tries = [];
        ended =
            (running, full, (link, ap Some opens), refl, refl);
        told = told;
      }

  pub ended-cut : (event : LinkEvent) (new : RoomState) (a b c : LinksEnd) → Tells a b (event ∷ []) []
      → IsCutEvent now.room event new b c → IsServed limits now new a c Memory
  ended-cut event new a b c told cut = record {
    rounds = [];
    are_rounds = tt;
    last = Some event;
    last_tries = cut.tries;
    ended = (running, cut.cut);
    told = tells-twice a b c (event ∷ []) [] [] cut.tries told cut.told;
  }

  -- one round, and what ends the room after it
  pub served-then : (next : Serving) (new : RoomState) (a b c : LinksEnd) (end : ServeEnd)
      → IsServedRound limits now next a b → IsServed limits next new b c end → IsServed limits now new a c end
  served-then next new a b c end one others = record {
    rounds = one.round ∷ others.rounds;
    are_rounds = (
      running,
      one.within,
      one.is_round,
      subst (λ s. AreRounds limits s others.rounds) one.follows others.are_rounds,
    );
    last = others.last;
    last_tries = others.last_tries;
    ended = subst (λ s. EndsBy limits (serving_at s others.rounds) others.last new others.last_tries end) one.follows
        others.ended;
    told = rw (append_assoc one.round.tries) (tells-twice a b c (one.round.event ∷ []) _ one.round.tries _ one.told
        others.told);
  }

-- what ends a room that no event is stepped in any more
pub ended-here : (limits : RoomLimits) (now : Serving) (a b : LinksEnd) (end : ServeEnd) → end_of limits now ≡ Some end
    → Tells a b [] [] → IsServed limits now now.room a b end
ended-here limits now a b AllClosed is told =
    record { rounds = []; are_rounds = tt; last = None; last_tries = []; ended = (is, refl, refl, refl); told = told }
ended-here limits now a b IdleEnd is told =
    record { rounds = []; are_rounds = tt; last = None; last_tries = []; ended = (is, refl, refl, refl); told = told }
ended-here limits now a b EventsFull is told =
    record { rounds = []; are_rounds = tt; last = None; last_tries = []; ended = (is, refl, refl, refl); told = told }
ended-here limits now a b LinkFault is told = absurd (never_fault _ _ _ is)
ended-here limits now a b LinksFull is told = absurd (never_full _ _ _ is)
ended-here limits now a b Memory is told = absurd (never_memory _ _ _ is)

-- a step whose texts were tried and whose lost links left is a served event
module _ (old same new after : RoomState) (event : LinkEvent) (texts : List (ℕ × List ℕ)) (a b : LinksEnd) (is : same
    ≡ old) (step : IsRoomStep same event new texts) where
  of_old : IsRoomStep old event new texts
  of_old = subst (λ room. IsRoomStep room event new texts) is step

  pub event-served : (gone left : List ℕ) → HaveTried a b texts gone [] → left ≡ gone
      → after ≡ record new { joined = without new.joined left } → IsServedEvent old event after a b
  event-served gone left sent same_links closed = record {
    round = record { event = event; happening = of_old.happening; stepped = new; tries = sent.tries; after = after };
    of = refl;
    is_round = record {
      heard = of_old.heard;
      stepped = of_old.after;
      tried = sym (append-nil (texts_tried sent.tries)) ∙ sym sent.tried ∙ of_old.told;
      after =
          closed ∙ ap (λ links. record new { joined = without new.joined links }) (same_links ∙ sym sent.gone_links);
    };
    room_after = refl;
    told = sent.told;
  }

-- a served event is a round
pub served-round : (limits : RoomLimits) (room new : RoomState) (old tally : Tally) (event : LinkEvent)
    (a b c : LinksEnd) → old.opened + opening_of event ≤ limits.links
    → tally.opened ≡ old.opened + opening_of event → tally.stepped ≡ old.stepped + step_count event
    → tally.idles ≡ idles_after old.idles event
    → Tells a b (event ∷ []) [] → IsServedEvent room event new b c
    → IsServedRound limits (serving_of room old) (serving_of new tally) a c
served-round limits room new old tally event a b c within opened stepped idles told one = record {
  round = one.round;
  within = rw one.of within;
  is_round = one.is_round;
  follows = rw (one.room_after, opened, stepped, idles, one.of) refl;
  told = rw one.of (tells-twice a b c (event ∷ []) [] [] one.round.tries told one.told);
}

-- how much is left before a room ends for want of events
abbrev pub left_of : RoomLimits → Serving → ℕ
left_of limits now = (limits.idle + 1) * (limits.events - now.stepped) + (limits.idle - now.idles)

fewer-idles : (events idle stepped idles : ℕ) → idles < idle
    → (idle + 1) * (events - stepped) + (idle - (idles + 1)) < (idle + 1) * (events - stepped) + (idle - idles)
fewer-idles events idle stepped idles i = omega arith

fewer-steps : (events idle stepped idles : ℕ) → stepped < events
    → (idle + 1) * (events - (stepped + 1)) + (idle - 0) < (idle + 1) * (events - stepped) + (idle - idles)
fewer-steps events idle stepped idles s =
    omega (arith, mul-add-lt (events - (stepped + 1)) (idle + 1) idle (events - stepped) (omega arith) (omega arith))

pub fewer : (events idle stepped idles : ℕ) (event : LinkEvent) → stepped < events → idles < idle
    → (idle + 1) * (events - (stepped + step_count event)) + (idle - idles_after idles event) < (idle + 1) *
    (events - stepped) + (idle - idles)
fewer events idle stepped idles Idle s i =
    let same : stepped ≡ stepped + 0 = omega arith in
    subst (λ n. (idle + 1) * (events - n) + (idle - (idles + 1)) < (idle + 1) * (events - stepped) + (idle - idles))
    same (fewer-idles events idle stepped idles i)
fewer events idle stepped idles (Opened link) s i = fewer-steps events idle stepped idles s
fewer events idle stepped idles (Text link text) s i = fewer-steps events idle stepped idles s
fewer events idle stepped idles (Closed link) s i = fewer-steps events idle stepped idles s

pub left-falls : (limits : RoomLimits) (now next : Serving) (a b : LinksEnd) → end_of limits now ≡ None
    → IsServedRound limits now next a b → left_of limits next < left_of limits now
left-falls limits now next a b running one =
    let below = below_limits limits now running in
    rw one.follows (fewer limits.events limits.idle now.stepped now.idles one.round.event below.0 below.1)

pub err_part : {A E P : Type 0} (r : Result A E) → is_err r ≡ true → OnErr r P → P
err_part (Ok a) e p = absurd cc
err_part (Err x) e p = p

pub ok_part : {A E P : Type 0} (r : Result A E) → is_err r ≡ false → OnOk r P → P
ok_part (Ok a) e p = p
ok_part (Err x) e p = absurd cc
