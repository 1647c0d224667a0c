-- Every script of events has a trace of a durable room.
use Rattle.std.proofs.Common.{◌≡◌, ◌≢◌, ℕ, zero, suc, ◌+◌, ◌<◌, ◌≤◌, Bool, true, List, [], ◌∷◌, drop, length, Option, Some, None, Result, inl, inr, refl, sym, ap, ap₂, subst, append_assoc, arith}
use Rattle.std.proofs.lemmas.Bool.{cases_lt}
use Rattle.frac_keys.specs.Rising.{are_rising}
use Rattle.elem_store.specs.Updates.{ids_of}
use Rattle.board_ends.specs.Events.{opening_of}
use Rattle.board_ends.specs.Script.{next_event}
use Rattle.board_ends.specs.declared.links.LinkEvent.{LinkEvent}
use Rattle.room_msg.specs.Messages.{IsReadAs}
use Rattle.room_msg.specs.declared.fault.MsgFault.{MsgFault}
use Rattle.room_msg.specs.declared.message.Message.{Message}
use Rattle.room_core.specs.Rooms.{RoomState, joined_after, taken_of, without}
use Rattle.room_core.specs.Scripts.{AreLostBy, first_events}
use Rattle.room_core.specs.Serving.{Serving, Round, at_start, end_of, serving_after}
use Rattle.room_core.specs.Told.{links_gone}
use Rattle.room_core.specs.declared.limits.RoomLimits.{RoomLimits}
use Rattle.room_core.specs.declared.limits.ServeEnd.{ServeEnd}
use Rattle.room_core.specs.declared.limits.ServeEnd.TheVariants as serve
use Rattle.room_core.proofs.CallerLemmas.{below_limits, fewer, full-event, heard-exists, left_of, lost-append, lost-by, taken-exists, tried-by, tries-by, tries_of}
use Rattle.room_disk.specs.Keeping.{Account, IsAccount, IsKeptRound, count_after, events_in, keep_end, step_texts, tries_in, untouched}
use Rattle.room_disk.specs.Scripts.{HasKeptTrace}
use Rattle.room_disk.specs.declared.keep_end.KeepEnd.{KeepEnd}
use Rattle.room_disk.specs.declared.keep_end.KeepEnd.TheVariants.{LinkFault, LinksFull, JournalFault, Memory}
use Rattle.room_disk.proofs.KeptAccounts.{IsCounted, counted, ends_here}
use Rattle.room_disk.proofs.KeptTraces.{kept-rises}

-- an end that nothing failed at
abbrev IsSound : KeepEnd → Type 0
IsSound end = (end ≢ Memory) × (end ≢ LinkFault) × (end ≢ JournalFault)

sound : (end : ServeEnd) → IsCounted end → IsSound (keep_end end)
sound serve.AllClosed some = (λ e. cc, λ e. cc, λ e. cc)
sound serve.Idle some = (λ e. cc, λ e. cc, λ e. cc)
sound serve.EventsFull some = (λ e. cc, λ e. cc, λ e. cc)
sound serve.LinkFault some = absurd some
sound serve.LinksFull some = absurd some
sound serve.Memory some = absurd some

-- ---- an account to the end, from a room under way on
record Ended (limits : RoomLimits) (now : Serving) (kept : ℕ) (script : List LinkEvent) (is_lost : ℕ → Bool) (n : ℕ) :
    Type 0 where
  account : Account
  new : RoomState
  final : KeepEnd
  count : ℕ
  is : IsAccount limits now kept new final account
  given : events_in account ≡ first_events count script
  lost : AreLostBy is_lost n (tries_in account)
  sound : IsSound final

module _ (reads : (bytes : List ℕ) → (answer : Result Message MsgFault) × IsReadAs bytes answer)
    (limits : RoomLimits) (is_lost : ℕ → Bool) where
  record RoundBy (kept : ℕ) (room : RoomState) (event : LinkEvent) (n : ℕ) : Type 0 where
    round : Round
    of : round.event ≡ event
    is : IsKeptRound kept room round
    lost : AreLostBy is_lost n round.tries

  round-exists : (kept : ℕ) (room : RoomState) (event : LinkEvent) (n : ℕ) → are_rising (ids_of room.elements) ≡ true
      → RoundBy kept room event n
  round-exists kept room event n rises =
      let heard = heard-exists reads room.joined event in
      let taken = taken-exists room.elements (taken_of heard.0) rises in
      let stepped : RoomState = record { elements = taken.0; joined = joined_after room.joined heard.0 } in
      let texts = step_texts kept room heard.0 in
      let tries = tries-by is_lost n texts in
      record {
        round = record {
          event = event;
          happening = heard.0;
          stepped = stepped;
          tries = tries;
          after = record stepped { joined = without stepped.joined (links_gone tries) };
        };
        of = refl;
        is = record {
          heard = heard.1;
          stepped = record { elements = taken.1; joined = refl };
          tried = tried-by is_lost n texts;
          after = refl;
        };
        lost = lost-by is_lost n texts;
      }

  -- what ends the room after one more round
  ended-then : (now : Serving) (kept : ℕ) (script : List LinkEvent) (n : ℕ)
      (by : RoundBy kept now.room (next_event script) n)
      → end_of limits now ≡ None → now.opened + opening_of (next_event script) ≤ limits.links
      → Ended limits (serving_after now by.round) (count_after kept by.round) (drop 1 script) is_lost
      (n + length by.round.tries)
      → Ended limits now kept script is_lost n
  ended-then now kept script n by running within rest =
      let rounds = rest.account.rounds in
      record {
        account = record rest.account { rounds = by.round ∷ rounds };
        new = rest.new;
        final = rest.final;
        count = suc rest.count;
        is = record { are_rounds = (running, rw by.of within, by.is, rest.is.are_rounds); ended = rest.is.ended };
        given = ap₂ (λ (event : LinkEvent) (events : List LinkEvent). event ∷ events) by.of rest.given;
        lost = subst (AreLostBy is_lost n) (sym (append_assoc by.round.tries (tries_of rounds) rest.account.last.tries))
            (lost-append is_lost n by.round.tries (tries_in rest.account) by.lost rest.lost);
        sound = rest.sound;
      }

  -- what ends the room before its next event, or after it
  ended-next : (now : Serving) (kept : ℕ) (script : List LinkEvent) (n : ℕ)
      → are_rising (ids_of now.room.elements) ≡ true → now.opened ≤ limits.links
      → ((next : Serving) (more m : ℕ) → left_of limits next < left_of limits now
      → are_rising (ids_of next.room.elements) ≡ true → next.opened ≤ limits.links
      → Ended limits next more (drop 1 script) is_lost m)
      → Ended limits now kept script is_lost n
  ended-next now kept script n rises within others = by (end_of limits now) refl
    where
      event : LinkEvent
      event = next_event script

      here : (end : ServeEnd) → end_of limits now ≡ Some end → Ended limits now kept script is_lost n
      here end is = record {
        account = record { rounds = []; last = untouched None };
        new = now.room;
        final = keep_end end;
        count = 0;
        is = record { are_rounds = tt; ended = ends_here limits now kept end (counted limits now end is) is };
        given = refl;
        lost = tt;
        sound = sound end (counted limits now end is);
      }

      full : end_of limits now ≡ None → limits.links < now.opened + opening_of event
          → Ended limits now kept script is_lost n
      full running over =
          let opens = full-event now.opened limits.links event within over in
          record {
            account = record { rounds = []; last = untouched (Some event) };
            new = now.room;
            final = LinksFull;
            count = 1;
            is = record {
              are_rounds = tt;
              ended = (running, opens.0, (opens.1.0, ap (λ e. untouched (Some e)) opens.1.1), refl);
            };
            given = refl;
            lost = tt;
            sound = (λ e. cc, λ e. cc, λ e. cc);
          }

      on : end_of limits now ≡ None → now.opened + opening_of event ≤ limits.links
          → Ended limits now kept script is_lost n
      on running inside =
          let one = round-exists kept now.room event n rises in
          let below = below_limits limits now running in
          ended-then now kept script n one running inside
          (others (serving_after now one.round) (count_after kept one.round) (n + length one.round.tries)
          (fewer limits.events limits.idle now.stepped now.idles one.round.event below.0 below.1)
          (kept-rises kept now.room one.round rises one.is) (rw one.of inside))

      by : (o : Option ServeEnd) → end_of limits now ≡ o → Ended limits now kept script is_lost n
      by (Some end) is = here end is
      by None is = elim (cases_lt limits.links (now.opened + opening_of event)) [
        | inl over ↦ full is over
        | inr inside ↦ on is (omega (arith, inside))
      ]

  ended : (fuel : ℕ) (now : Serving) (kept : ℕ) (script : List LinkEvent) (n : ℕ) → left_of limits now < fuel
      → are_rising (ids_of now.room.elements) ≡ true → now.opened ≤ limits.links
      → Ended limits now kept script is_lost n
  ended zero now kept script n left rises within = absurd (omega (arith, left))
  ended (suc fuel) now kept script n left rises within =
      ended-next now kept script n rises within
      (λ next more m falls rise inside. ended fuel next more (drop 1 script) m (omega (arith, left, falls)) rise inside)

pub kept-trace-exists : (reads : (bytes : List ℕ) → (answer : Result Message MsgFault) × IsReadAs bytes answer)
    (limits : RoomLimits) (room : RoomState) (script : List LinkEvent) (is_lost : ℕ → Bool)
    → are_rising (ids_of room.elements) ≡ true → HasKeptTrace limits room script is_lost
kept-trace-exists reads limits room script is_lost rises =
    let start = at_start room in
    let all = ended reads limits is_lost (suc (left_of limits start)) start 0 script 0 (omega arith) rises (omega arith) in
    record {
      new = all.new;
      end = all.final;
      count = all.count;
      account = all.account;
      is = all.is;
      given = all.given;
      lost = all.lost;
      no_memory = all.sound.0;
      no_link_fault = all.sound.1;
      no_journal_fault = all.sound.2;
    }
