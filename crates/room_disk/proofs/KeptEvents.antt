-- What one event gives a durable room.
use Rattle.std.proofs.Common.{◌≡◌, ℕ, ◌+◌, ◌≤◌, Bool, true, false, List, [], ◌∷◌, ◌++◌, length, map, Option, Some, Result, Ok, Err, inl, inr, refl, sym, ap, ap₂, subst, ◌∙◌, append-nil, append_assoc, arith}
use Rattle.std.specs.Prelude.{MatchBool}
use Rattle.std.proofs.lemmas.List.{map-append}
use Rattle.elem.specs.ElementValue.{ElementValue}
use Rattle.board_ends.specs.Ends.{LinksEnd, SinkEnd, Took, KeepsSafe, IsSynced}
use Rattle.board_ends.specs.declared.links.LinkEvent.{LinkEvent}
use Rattle.board_ends.specs.declared.links.LinkEvent.TheVariants.{Opened, Text, Closed, Idle}
use Rattle.room_msg.specs.Messages.{IsReadAs}
use Rattle.room_msg.specs.Texts.{message_text}
use Rattle.room_msg.specs.declared.fault.MsgFault.{MsgFault}
use Rattle.room_msg.specs.declared.message.Message.{Message}
use Rattle.room_msg.specs.declared.message.Message.TheVariants.{Init, Update, Presence}
use Rattle.room_core.specs.Planned.{IsPlanned, IsChanged, record_in, record_of as record_heard, texts_told}
use Rattle.room_core.specs.Rooms.{RoomState, Happening, Joined, Heard, Left, Nothing, HaveTaken, IsHeardAs, IsRoomAfter, is_among, without}
use Rattle.room_core.specs.Serving.{step_count}
use Rattle.room_core.specs.Told.{HaveTried, Tells, Try, texts_tried}
use Rattle.room_core.specs.declared.plan.Plan.{Plan}
use Rattle.room_core.proofs.CallerLemmas.{tells-nothing, tells-twice, links_gone-append}
use Rattle.room_disk.specs.Keeping.{HasGained, kept_text, kept_texts, messages_in, step_texts, told_last, untouched}
use Rattle.room_disk.specs.Records.{record_of, update_record}
use Rattle.room_disk.specs.declared.keep_end.KeepEnd.{KeepEnd}
use Rattle.room_disk.specs.declared.keep_end.KeepEnd.TheVariants.{AllClosed, Idle as IdleEnd, LinkFault, LinksFull, EventsFull, JournalFault, Memory}
use Rattle.room_disk.specs.inner.KeptSteps.{IsKeptEvent, IsRecordStopped, IsSafeBy, IsStoppedEvent, count_with, kept_answers, message_bytes, record_bytes, sender_of}
use Rattle.input_texts.proofs.CallerLemmas.{took-none}
use Rattle.room_disk.proofs.Gains.{gained-all, safe-all, safe-less, safe-still}

-- ---- the texts of two calls

pub tried-twice : (a b c : LinksEnd) (xs ys : List (ℕ × List ℕ)) (gone more : List ℕ) (rest : List (ℕ × List ℕ))
    → HaveTried a b xs gone [] → HaveTried b c ys more rest → HaveTried a c (xs ++ ys) (gone ++ more) rest
tried-twice a b c xs ys gone more rest first second = record {
  tries = first.tries ++ second.tries;
  tried = ap₂ (λ x y. x ++ y) (first.tried ∙ append-nil (texts_tried first.tries)) second.tried
      ∙ sym (append_assoc (texts_tried first.tries) (texts_tried second.tries) rest)
      ∙ ap (λ t. t ++ rest) (sym (map-append (λ (try : Try). (try.link, try.text)) first.tries second.tries));
  gone_links = links_gone-append first.tries second.tries ∙ ap₂ (λ x y. x ++ y) first.gone_links second.gone_links;
  told = tells-twice a b c [] [] first.tries second.tries first.told second.told;
}

-- where the first call was cut, nothing of the second was tried
pub tried-first : (a b : LinksEnd) (xs ys : List (ℕ × List ℕ)) (gone : List ℕ) (rest : List (ℕ × List ℕ))
    → HaveTried a b xs gone rest → HaveTried a b (xs ++ ys) gone (rest ++ ys)
tried-first a b xs ys gone rest first = record {
  tries = first.tries;
  tried = ap (λ t. t ++ ys) first.tried ∙ append_assoc (texts_tried first.tries) rest ys;
  gone_links = first.gone_links;
  told = first.told;
}

-- ---- what was heard
heard_some : (link : ℕ) (answer : Result Message MsgFault) → Heard link answer ≡ Nothing → ⊥
heard_some link answer same = cc

heard_no_join : (link other : ℕ) (answer : Result Message MsgFault) → Heard link answer ≡ Joined other → ⊥
heard_no_join link other answer same = cc

heard_no_leave : (link : ℕ) (links : List ℕ) (answer : Result Message MsgFault) → Heard link answer ≡ Left links → ⊥
heard_no_leave link links answer same = cc

heard_link : (link other : ℕ) (answer found : Result Message MsgFault) → Heard link answer ≡ Heard other found
    → link ≡ other
heard_link link other answer found same = cc

text_sender : (b : Bool) (other link : ℕ) (bytes : List ℕ) (answer : Result Message MsgFault)
    → MatchBool b ((found : Result Message MsgFault) × IsReadAs bytes found × (Heard link answer ≡ Heard other found))
    (Heard link answer ≡ Nothing) → other ≡ link
text_sender true other link bytes answer heard = sym (heard_link link other answer heard.0 heard.2)
text_sender false other link bytes answer heard = absurd (heard_some link answer heard)

heard_sender : (joined : List ℕ) (event : LinkEvent) (link : ℕ) (answer : Result Message MsgFault)
    → IsHeardAs joined event (Heard link answer) → sender_of event ≡ link
heard_sender joined (Opened other) link answer heard = absurd (heard_no_join link other answer heard)
heard_sender joined (Text other bytes) link answer heard =
    text_sender (is_among joined other) other link bytes answer heard
heard_sender joined (Closed other) link answer heard = absurd (heard_no_leave link (other ∷ []) answer heard)
heard_sender joined Idle link answer heard = absurd (heard_some link answer heard)

module _ (joined : List ℕ) (event : LinkEvent) (count : ℕ) where
  -- the sender is told exactly of a message with a record
  pub answers_of : (happening : Happening) → IsHeardAs joined event happening
      → kept_answers (sender_of event) count (record_heard happening) ≡ kept_texts count happening
  answers_of (Joined link) heard = refl
  answers_of (Heard link (Ok (Init elements))) heard =
      ap (λ sender. (sender, kept_text (count + 1)) ∷ []) (heard_sender joined event link (Ok (Init elements)) heard)
  answers_of (Heard link (Ok (Update elements))) heard =
      ap (λ sender. (sender, kept_text (count + 1)) ∷ []) (heard_sender joined event link (Ok (Update elements)) heard)
  answers_of (Heard link (Ok (Presence value))) heard = refl
  answers_of (Heard link (Err fault)) heard = refl
  answers_of (Left links) heard = refl
  answers_of Nothing heard = refl

pub answers-by : (kept : List (ℕ × List ℕ)) (sender link count : ℕ) (text : Option (List ℕ))
    → kept ≡ kept_answers sender count text → sender ≡ link → kept ≡ kept_answers link count text
answers-by kept sender link count text is same = is ∙ ap (λ other. kept_answers other count text) same

-- it is counted
count_of : (count : ℕ) (happening : Happening) → count_with count (record_heard happening)
    ≡ count + length (messages_in happening)
count_of count (Joined link) = omega arith
count_of count (Heard link (Ok (Init elements))) = refl
count_of count (Heard link (Ok (Update elements))) = refl
count_of count (Heard link (Ok (Presence value))) = omega arith
count_of count (Heard link (Err fault)) = omega arith
count_of count (Left links) = omega arith
count_of count Nothing = omega arith

-- and its record is that of a message
bytes_heard : (happening : Happening) → record_bytes (record_heard happening) ≡ message_bytes (messages_in happening)
bytes_heard (Joined link) = refl
bytes_heard (Heard link (Ok (Init elements))) = sym (append-nil (update_record elements))
bytes_heard (Heard link (Ok (Update elements))) = sym (append-nil (update_record elements))
bytes_heard (Heard link (Ok (Presence value))) = refl
bytes_heard (Heard link (Err fault)) = refl
bytes_heard (Left links) = refl
bytes_heard Nothing = refl

-- a record is that of one message
one_heard : (happening : Happening) (text : List ℕ) → record_heard happening ≡ Some text
    → (elements : List ElementValue) × (messages_in happening ≡ elements ∷ []) × (message_text (Update elements) ≡ text)
one_heard (Joined link) text is = absurd cc
one_heard (Heard link (Ok (Init elements))) text is = (elements, refl, cc)
one_heard (Heard link (Ok (Update elements))) text is = (elements, refl, cc)
one_heard (Heard link (Ok (Presence value))) text is = absurd cc
one_heard (Heard link (Err fault)) text is = absurd cc
one_heard (Left links) text is = absurd cc
one_heard Nothing text is = absurd cc

-- an event that isn't counted gives no message, and any other one at most
few_heard : (happening : Happening) → length (messages_in happening) ≤ 1
few_heard (Joined link) = omega arith
few_heard (Heard link (Ok (Init elements))) = omega arith
few_heard (Heard link (Ok (Update elements))) = omega arith
few_heard (Heard link (Ok (Presence value))) = omega arith
few_heard (Heard link (Err fault)) = omega arith
few_heard (Left links) = omega arith
few_heard Nothing = omega arith

pub few_steps : (joined : List ℕ) (event : LinkEvent) (happening : Happening) → IsHeardAs joined event happening
    → length (messages_in happening) ≤ step_count event
few_steps joined (Opened link) happening heard = few_heard happening
few_steps joined (Text link bytes) happening heard = few_heard happening
few_steps joined (Closed link) happening heard = few_heard happening
few_steps joined Idle happening heard = rw heard (let none : 0 ≤ 0 = omega arith in none)

-- ---- a step that was planned
room-after : (old new : RoomState) (event : LinkEvent) (plan : Plan) → (planned : IsPlanned old event plan)
    → IsChanged old plan.change new → IsRoomAfter old planned.happening new
room-after old new event plan planned changed = record {
  elements = subst (λ taken. HaveTaken old.elements taken new.elements) planned.taken changed.elements;
  joined = changed.joined ∙ planned.joined;
}

module _ (old new : RoomState) (event : LinkEvent) (plan : Plan) (planned : IsPlanned old event plan)
    (changed : IsChanged old plan.change new) (count : ℕ) (a b : LinksEnd) (ja jb : SinkEnd)
    (kept : List (ℕ × List ℕ)) (answered : kept ≡ kept_answers (sender_of event) count (record_in plan))
    (took : Took ja jb (record_bytes (record_in plan))) (synced : IsSynced jb) where
  texts_same : texts_told plan.told ++ kept ≡ step_texts count old planned.happening
  texts_same = ap₂ (λ x y. x ++ y) planned.told (answered ∙ ap (kept_answers (sender_of event) count) planned.kept
      ∙ answers_of old.joined event count planned.happening planned.heard)

  took_same : Took ja jb (message_bytes (messages_in planned.happening))
  took_same = subst (Took ja jb) (ap record_bytes planned.kept ∙ bytes_heard planned.happening) took

  -- all its texts were tried
  pub event-kept : (last : RoomState) (counted : ℕ) (gone closed : List ℕ)
      → HaveTried a b (texts_told plan.told ++ kept) gone [] → closed ≡ gone
      → last ≡ record new { joined = without new.joined closed } → counted ≡ count_with count (record_in plan)
      → IsKeptEvent old count event last counted a b ja jb
  event-kept last counted gone closed tried same left counts = record {
    round = record {
      event = event;
      happening = planned.happening;
      stepped = new;
      tries = tried.tries;
      after = last;
    };
    of = refl;
    is_round = record {
      heard = planned.heard;
      stepped = room-after old new event plan planned changed;
      tried = sym (append-nil (texts_tried tried.tries)) ∙ sym tried.tried ∙ texts_same;
      after = left ∙ ap (λ links. record new { joined = without new.joined links }) (same ∙ sym tried.gone_links);
    };
    room_after = refl;
    count_is = counts ∙ ap (count_with count) planned.kept ∙ count_of count planned.happening;
    told = tried.told;
    took = took_same;
    synced = synced;
  }

  told_safe : (tries : List Try) → IsSafeBy ja jb (message_bytes (told_last tries (messages_in planned.happening)))
  told_safe [] = safe-less ja jb (message_bytes (messages_in planned.happening))
      (safe-all ja jb (message_bytes (messages_in planned.happening)) took_same synced)
  told_safe (try ∷ tries) = safe-all ja jb (message_bytes (messages_in planned.happening)) took_same synced

  -- the first of its texts were tried
  pub event-cut : (gone : List ℕ) (rest : List (ℕ × List ℕ)) → HaveTried a b (texts_told plan.told ++ kept) gone rest
      → IsStoppedEvent old count event new a b ja jb Memory
  event-cut gone rest tried = record {
    last = record { event = Some event; tries = tried.tries; messages = messages_in planned.happening };
    of = refl;
    stopped = inr (record {
      event = event;
      given = refl;
      happening = planned.happening;
      heard = planned.heard;
      messages = refl;
      stepped = room-after old new event plan planned changed;
      rest = rest;
      tried = sym texts_same ∙ tried.tried;
    });
    told = tried.told;
    taken = record {
      gained = gained-all (map update_record (messages_in planned.happening)) ja jb took_same;
      whole = λ _. took_same;
      safe = told_safe tried.tries;
    };
  }

-- ---- a step that wasn't made
module _ (old new : RoomState) (event : LinkEvent) (same : new ≡ old) (count : ℕ) (a b : LinksEnd) (still : b ≡ a)
    (ja jb : SinkEnd) where
  quiet_links : Tells a b [] []
  quiet_links = rw still (tells-nothing a a refl refl refl)

  pub event-unmade : jb ≡ ja → IsSynced ja → IsStoppedEvent old count event new a b ja jb Memory
  event-unmade quiet synced = record {
    last = untouched (Some event);
    of = refl;
    stopped = inl (refl, same);
    told = quiet_links;
    taken = record {
      gained = gained-all [] ja jb (rw quiet (took-none ja));
      whole = λ _. rw quiet (took-none ja);
      safe = rw quiet (safe-all ja ja [] (took-none ja) synced);
    };
  }

  held_back : (plan : Plan) → (planned : IsPlanned old event plan) → IsSynced ja → KeepsSafe ja jb → (text : List ℕ)
      → record_in plan ≡ Some text → HasGained (record_of text ∷ []) ja jb
      → IsStoppedEvent old count event new a b ja jb JournalFault
  held_back plan planned synced keeps text is gained =
      let one = one_heard planned.happening text (sym planned.kept ∙ is) in
      record {
        last = record { event = Some event; tries = []; messages = messages_in planned.happening };
        of = refl;
        stopped = (
          record {
            event = event;
            given = refl;
            happening = planned.happening;
            heard = planned.heard;
            messages = refl;
            one = rw one.1 (let least : 1 ≤ 1 = omega arith in least);
            unsent = refl;
          },
          same,
        );
        told = quiet_links;
        taken = record {
          gained = subst (λ records. HasGained records ja jb)
              (sym (ap (map update_record) one.1 ∙ ap (λ t. record_of t ∷ []) one.2)) gained;
          whole = λ other. absurd (other refl);
          safe = safe-still ja jb synced keeps;
        };
      }

  pub event-stopped : (plan : Plan) → IsPlanned old event plan → IsSynced ja → KeepsSafe ja jb → (end : KeepEnd)
      → IsRecordStopped (record_in plan) ja jb end → IsStoppedEvent old count event new a b ja jb end
  event-stopped plan planned synced keeps JournalFault stopped =
      held_back plan planned synced keeps stopped.0 stopped.1 stopped.2
  event-stopped plan planned synced keeps Memory stopped = event-unmade stopped synced
  event-stopped plan planned synced keeps AllClosed stopped = absurd stopped
  event-stopped plan planned synced keeps IdleEnd stopped = absurd stopped
  event-stopped plan planned synced keeps LinkFault stopped = absurd stopped
  event-stopped plan planned synced keeps LinksFull stopped = absurd stopped
  event-stopped plan planned synced keeps EventsFull stopped = absurd stopped
