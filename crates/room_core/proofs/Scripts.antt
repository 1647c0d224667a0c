-- Every script of events has a trace.
use Rattle.std.proofs.Common.{◌≡◌, ◌≢◌, ℕ, zero, suc, ◌+◌, ◌<◌, ◌≤◌, Bool, true, false, not, List, [], ◌∷◌, ◌++◌, drop, length, Option, Some, None, option_to_list, MatchBool, Result, inl, inr, refl, sym, ap, ap₂, subst, ◌∙◌, append-nil, arith}
use Rattle.std.proofs.lemmas.Bool.{cases_lt}
use Rattle.frac_keys.specs.Rising.{are_rising}
use Rattle.elem.specs.ElementValue.{ElementValue}
use Rattle.elem_store.specs.Updates.{ids_of, stored_of}
use Rattle.elem_store.proofs.CallerLemmas.{AreStored-itself, joined_leader, stored-append, stored-exist}
use Rattle.board_ends.specs.Events.{opening_of}
use Rattle.board_ends.specs.Script.{next_event}
use Rattle.board_ends.specs.declared.links.LinkEvent.{LinkEvent}
use Rattle.board_ends.specs.declared.links.LinkEvent.TheVariants.{Opened, Text, Closed, Idle}
use Rattle.room_msg.specs.Messages.{IsReadAs}
use Rattle.room_msg.specs.declared.fault.MsgFault.{MsgFault}
use Rattle.room_msg.specs.declared.message.Message.{Message}
use Rattle.room_core.specs.Rooms.{RoomState, Happening, Joined, Heard, Left, Nothing, HaveTaken, IsHeardAs, is_among, joined_after, taken_of, texts_of, without}
use Rattle.room_core.specs.Scripts.{HasTrace, AreLostBy, first_events, links_told}
use Rattle.room_core.specs.Serving.{Serving, Round, IsRound, AreRounds, EndsBy, at_start, end_of, serving_after, serving_at}
use Rattle.room_core.specs.Told.{Try, Tells, links_gone, texts_lost, texts_sent, texts_tried}
use Rattle.room_core.specs.declared.limits.RoomLimits.{RoomLimits}
use Rattle.room_core.specs.declared.limits.ServeEnd.{ServeEnd}
use Rattle.room_core.specs.declared.limits.ServeEnd.TheVariants.{AllClosed, Idle as IdleEnd, LinkFault, LinksFull, EventsFull, Memory}
use Rattle.room_core.proofs.Closing.{events_of, tries_of}
use Rattle.room_core.proofs.Served.{below_limits, fewer, left_of, never_fault, never_full, never_memory}
use Rattle.room_core.proofs.Traces.{round-rises}

-- ---- what is stored once updates were taken
pub taken-exists : (old taken : List ElementValue) → are_rising (ids_of old) ≡ true → (new : List ElementValue)
    × HaveTaken old taken new
taken-exists old taken rises =
    let all = stored-exist (old ++ taken) in
    let own = AreStored-itself old rises in (
      all.0,
      λ updates are. record {
        ordered = all.1.ordered;
        each = λ id. all.1.each id ∙ stored-append old taken id
            ∙ ap (λ (e : Option ElementValue). joined_leader e (stored_of taken id)) (sym (own.each id) ∙ are.each id)
            ∙ sym (stored-append updates taken id);
      },
    )

-- ---- texts that are tried, some of which are lost by choice
abbrev pub tries-by : (ℕ → Bool) → ℕ → List (ℕ × List ℕ) → List Try
tries-by is_lost n [] = []
tries-by is_lost n (text ∷ texts) =
    record { link = text.0; text = text.1; is_sent = not (is_lost n) } ∷ tries-by is_lost (n + 1) texts

pub tried-by : (is_lost : ℕ → Bool) (n : ℕ) (texts : List (ℕ × List ℕ)) → texts_tried (tries-by is_lost n texts) ≡ texts
tried-by is_lost n [] = refl
tried-by is_lost n (text ∷ texts) = ap (λ (more : List (ℕ × List ℕ)). text ∷ more) (tried-by is_lost (n + 1) texts)

pub lost-by : (is_lost : ℕ → Bool) (n : ℕ) (texts : List (ℕ × List ℕ)) → AreLostBy is_lost n (tries-by is_lost n texts)
lost-by is_lost n [] = tt
lost-by is_lost n (text ∷ texts) = (refl, lost-by is_lost (n + 1) texts)

pub lost-append : (is_lost : ℕ → Bool) (n : ℕ) (ts us : List Try) → AreLostBy is_lost n ts
    → AreLostBy is_lost (n + length ts) us → AreLostBy is_lost n (ts ++ us)
lost-append is_lost n [] us first second =
    let same : n + 0 ≡ n = omega arith in subst (λ m. AreLostBy is_lost m us) same second
lost-append is_lost n (t ∷ ts) us first second =
    let same : n + length (t ∷ ts) ≡ n + 1 + length ts = omega arith in
    (first.0, lost-append is_lost (n + 1) ts us first.1 (subst (λ m. AreLostBy is_lost m us) same second))

-- ---- an event that opens one link too many
pub full-event : (opened links : ℕ) (event : LinkEvent) → opened ≤ links → links < opened + opening_of event
    → (opened ≡ links) × ((link : ℕ) × (event ≡ Opened link))
full-event opened links (Opened link) within over = (omega arith, (link, refl))
full-event opened links (Text link bytes) within over = absurd (omega arith)
full-event opened links (Closed link) within over = absurd (omega arith)
full-event opened links Idle within over = absurd (omega arith)

-- ---- rounds to the end, from a room under way on
record Ended (limits : RoomLimits) (now : Serving) (script : List LinkEvent) (is_lost : ℕ → Bool) (n : ℕ) : Type 0 where
  rounds : List Round
  last : Option LinkEvent
  new : RoomState
  final : ServeEnd
  count : ℕ
  are_rounds : AreRounds limits now rounds
  ended : EndsBy limits (serving_at now rounds) last new [] final
  given : events_of rounds ++ option_to_list last ≡ first_events count script
  lost : AreLostBy is_lost n (tries_of rounds)
  no_memory : final ≢ Memory
  no_fault : final ≢ LinkFault

ended-at : (limits : RoomLimits) (now : Serving) (script : List LinkEvent) (is_lost : ℕ
    → Bool) (n : ℕ) (final : ServeEnd) → end_of limits now ≡ Some final → Ended limits now script is_lost n
ended-at limits now script is_lost n AllClosed is = record {
  rounds = [];
  last = None;
  new = now.room;
  final = AllClosed;
  count = 0;
  are_rounds = tt;
  ended = (is, refl, refl, refl);
  given = refl;
  lost = tt;
  no_memory = λ e. cc;
  no_fault = λ e. cc;
}
ended-at limits now script is_lost n IdleEnd is = record {
  rounds = [];
  last = None;
  new = now.room;
  final = IdleEnd;
  count = 0;
  are_rounds = tt;
  ended = (is, refl, refl, refl);
  given = refl;
  lost = tt;
  no_memory = λ e. cc;
  no_fault = λ e. cc;
}
ended-at limits now script is_lost n EventsFull is = record {
  rounds = [];
  last = None;
  new = now.room;
  final = EventsFull;
  count = 0;
  are_rounds = tt;
  ended = (is, refl, refl, refl);
  given = refl;
  lost = tt;
  no_memory = λ e. cc;
  no_fault = λ e. cc;
}
ended-at limits now script is_lost n LinkFault is = absurd (never_fault _ _ _ is)
ended-at limits now script is_lost n LinksFull is = absurd (never_full _ _ _ is)
ended-at limits now script is_lost n Memory is = absurd (never_memory _ _ _ is)

module _ (reads : (bytes : List ℕ) → (answer : Result Message MsgFault) × IsReadAs bytes answer) where
  text-heard : (link : ℕ) (bytes : List ℕ) (b : Bool)
      → (happening : Happening) × MatchBool b ((answer : Result Message MsgFault) × IsReadAs bytes answer
      × (happening ≡ Heard link answer)) (happening ≡ Nothing)
  text-heard link bytes true = let read = reads bytes in (Heard link read.0, (read.0, read.1, refl))
  text-heard link bytes false = (Nothing, refl)

  pub heard-exists : (joined : List ℕ) (event : LinkEvent) → (happening : Happening) × IsHeardAs joined event happening
  heard-exists joined (Opened link) = (Joined link, refl)
  heard-exists joined (Text link bytes) = text-heard link bytes (is_among joined link)
  heard-exists joined (Closed link) = (Left (link ∷ []), refl)
  heard-exists joined Idle = (Nothing, refl)

  record RoundBy (room : RoomState) (event : LinkEvent) (is_lost : ℕ → Bool) (n : ℕ) : Type 0 where
    round : Round
    of : round.event ≡ event
    is : IsRound room round
    lost : AreLostBy is_lost n round.tries

  round-exists : (room : RoomState) (event : LinkEvent) (is_lost : ℕ → Bool) (n : ℕ)
      → are_rising (ids_of room.elements) ≡ true → RoundBy room event is_lost n
  round-exists room event is_lost n rises =
      let heard = heard-exists room.joined event in
      let taken = taken-exists room.elements (taken_of heard.0) rises in
      let stepped : RoomState = record { elements = taken.0; joined = joined_after room.joined heard.0 } in
      let tries = tries-by is_lost n (texts_of room heard.0) in
      record {
        round = record {
          event = event;
          happening = heard.0;
          stepped = stepped;
          tries = tries;
          after =
              record stepped { joined = without stepped.joined (links_gone tries) };
        };
        of = refl;
        is = record {
          heard = heard.1;
          stepped = record { elements = taken.1; joined = refl };
          tried =
              tried-by is_lost n (texts_of room heard.0);
          after = refl;
        };
        lost = lost-by is_lost n (texts_of room heard.0);
      }

  -- what ends the room after one more round
  ended-then : (limits : RoomLimits) (now : Serving) (script : List LinkEvent) (is_lost : ℕ
      → Bool) (n : ℕ) (by : RoundBy now.room (next_event script) is_lost n)
      → end_of limits now ≡ None → now.opened + opening_of (next_event script) ≤ limits.links
      → Ended limits (serving_after now by.round) (drop 1 script) is_lost (n + length by.round.tries)
      → Ended limits now script is_lost n
  ended-then limits now script is_lost n by running within rest = record {
    rounds = by.round ∷ rest.rounds;
    last = rest.last;
    new = rest.new;
    final = rest.final;
    count = suc rest.count;
    are_rounds = (running, rw by.of within, by.is, rest.are_rounds);
    ended = rest.ended;
    given = ap₂ (λ (event : LinkEvent) (events : List LinkEvent). event ∷ events) by.of rest.given;
    lost = lost-append is_lost n by.round.tries (tries_of rest.rounds) by.lost rest.lost;
    no_memory = rest.no_memory;
    no_fault = rest.no_fault;
  }

  -- what ends the room before its next event, or after it
  ended-next : (limits : RoomLimits) (now : Serving) (script : List LinkEvent) (is_lost : ℕ → Bool) (n : ℕ)
      → are_rising (ids_of now.room.elements) ≡ true → now.opened ≤ limits.links
      → ((next : Serving) (m : ℕ) → left_of limits next < left_of limits now
      → are_rising (ids_of next.room.elements) ≡ true → next.opened ≤ limits.links
      → Ended limits next (drop 1 script) is_lost m)
      → Ended limits now script is_lost n
  ended-next limits now script is_lost n rises within more = by (end_of limits now) refl
    where
      event : LinkEvent
      event = next_event script

      full : end_of limits now ≡ None → limits.links < now.opened + opening_of event → Ended limits now script is_lost n
      full running over =
          let opens = full-event now.opened limits.links event within over in
          record {
            rounds = [];
            last = Some event;
            new = now.room;
            final = LinksFull;
            count = 1;
            are_rounds = tt;
            ended = (running, opens.0, (opens.1.0, ap Some opens.1.1), refl, refl);
            given = refl;
            lost = tt;
            no_memory = λ e. cc;
            no_fault = λ e. cc;
          }

      on : end_of limits now ≡ None → now.opened + opening_of event ≤ limits.links → Ended limits now script is_lost n
      on running inside =
          let one = round-exists now.room event is_lost n rises in
          let below = below_limits limits now running in
          ended-then limits now script is_lost n one running inside
          (more (serving_after now one.round) (n + length one.round.tries)
          (fewer limits.events limits.idle now.stepped now.idles one.round.event below.0 below.1)
          (round-rises now.room one.round rises one.is) (rw one.of inside))

      by : (o : Option ServeEnd) → end_of limits now ≡ o → Ended limits now script is_lost n
      by (Some final) is = ended-at limits now script is_lost n final is
      by None is = elim (cases_lt limits.links (now.opened + opening_of event)) [
        | inl over ↦ full is over
        | inr inside ↦ on is (omega (arith, inside))
      ]

  ended : (fuel : ℕ) (limits : RoomLimits) (now : Serving) (script : List LinkEvent) (is_lost : ℕ → Bool) (n : ℕ)
      → left_of limits now < fuel
      → are_rising (ids_of now.room.elements) ≡ true → now.opened ≤ limits.links → Ended limits now script is_lost n
  ended zero limits now script is_lost n left rises within = absurd (omega (arith, left))
  ended (suc fuel) limits now script is_lost n left rises within =
      ended-next limits now script is_lost n rises within
      (λ next m falls rise inside. ended fuel limits next (drop 1 script) is_lost m (omega (arith, left, falls)) rise
      inside)

  told-all : (given events : List LinkEvent) (tries : List Try) → given ≡ events
      → Tells (links_told [] []) (links_told events tries) given (tries ++ [])
  told-all given events tries is = record {
    given = ap Some (sym is);
    sent = ap (λ (ts : List Try). Some (texts_sent ts)) (sym (append-nil tries));
    lost = ap (λ (ts : List Try). Some (texts_lost 0 ts)) (sym (append-nil tries));
  }

  pub trace-exists : (limits : RoomLimits) (room : RoomState) (script : List LinkEvent) (is_lost : ℕ → Bool)
      → are_rising (ids_of room.elements) ≡ true → HasTrace limits room script is_lost
  trace-exists limits room script is_lost rises =
      let start = at_start room in
      let all = ended (suc (left_of limits start)) limits start script is_lost 0 (omega arith) rises (omega arith) in
      record {
        new = all.new;
        end = all.final;
        count = all.count;
        tries = tries_of all.rounds;
        served = record {
          rounds = all.rounds;
          are_rounds = all.are_rounds;
          last = all.last;
          last_tries = [];
          ended = all.ended;
          told = told-all (events_of all.rounds ++ option_to_list all.last) (first_events all.count script)
              (tries_of all.rounds) all.given;
        };
        lost = all.lost;
        no_memory = all.no_memory;
        no_fault = all.no_fault;
      }
