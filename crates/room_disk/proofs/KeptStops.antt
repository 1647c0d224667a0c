-- What is recovered of what a stop leaves of a durable room's journal.
use Rattle.std.proofs.Common.{◌≡◌, ℕ, nat_le, zero, suc, ◌+◌, ◌<◌, ◌≤◌, Bool, true, false, List, [], ◌∷◌, ◌++◌, length, map, take, Result, Ok, Err, All, ◌⊎◌, inl, inr, refl, sym, ap, subst, ◌∙◌, append-nil, append_assoc, length-append, arith}
use Rattle.std.specs.Prelude.{MatchBool}
use Rattle.std.proofs.lemmas.Bool.{cases_Bool}
use Rattle.std.proofs.lemmas.Bool.Decides.{nat_tests}
use Rattle.std.proofs.lemmas.List.Elements.{All-append, All-cons, All-nil}
use Rattle.elem.specs.ElementValue.{ElementValue}
use Rattle.elem_read.specs.Reading.{IsWholeElement}
use Rattle.board_ends.specs.Ends.{SinkEnd}
use Rattle.board_ends.specs.declared.links.LinkEvent.{LinkEvent}
use Rattle.board_ends.specs.declared.links.LinkEvent.TheVariants.{Opened, Text, Closed, Idle}
use Rattle.room_msg.specs.Messages.{IsReadAs}
use Rattle.room_msg.specs.declared.fault.MsgFault.{MsgFault}
use Rattle.room_msg.specs.declared.message.Message.{Message}
use Rattle.room_msg.specs.declared.message.Message.TheVariants.{Init, Update, Presence}
use Rattle.room_core.specs.Rooms.{RoomState, Happening, Heard, Nothing, IsHeardAs, is_among}
use Rattle.room_core.specs.Serving.{Serving, Round, serving_after, serving_at}
use Rattle.room_core.specs.Told.{Try}
use Rattle.room_core.specs.declared.limits.RoomLimits.{RoomLimits}
use Rattle.scene_file.specs.Heads.{Heading}
use Rattle.scene_file.specs.Scenes.{state_text}
use Rattle.input_texts.specs.Lines.{lines_of}
use Rattle.room_disk.specs.Keeping.{Account, Last, AreKeptRounds, EndsKept, HasGained, IsAccount, IsCutKept, IsLeft, IsStopAnswer, count_after, count_at, messages_heard, messages_in, messages_of, messages_told, told_last}
use Rattle.room_disk.specs.Records.{bytes_of, opening_record, records_of, update_record}
use Rattle.room_disk.specs.Recovering.{HasNoLine, Recovered, IsRecoveredAs, empty_head}
use Rattle.room_disk.specs.Stops.{HaveRecords, IsAnswerAfter, IsAnswerTo, IsOpening}
use Rattle.room_disk.specs.declared.fault.KeepFault.{KeepFault}
use Rattle.room_disk.specs.declared.keep_end.KeepEnd.{KeepEnd}
use Rattle.room_disk.specs.declared.keep_end.KeepEnd.TheVariants.{AllClosed, Idle as IdleEnd, LinkFault, LinksFull, EventsFull, JournalFault, Memory}
use Rattle.room_disk.specs.inner.KeptSteps.{IsSafeBy, message_bytes}
use Rattle.room_disk.proofs.Cuts.{unended}
use Rattle.room_disk.proofs.Gains.{left-long, left-of}
use Rattle.room_disk.proofs.StopLaws.{nothing}
use Rattle.room_disk.proofs.WholeLaws.{AreWholeRead}
use Rattle.room_disk.proofs.Written.{state-none}

-- ---- messages are whole
abbrev pub AreWholeMessages : List (List ElementValue) → Type 0
AreWholeMessages messages = All (All IsWholeElement) messages

one_whole : (elements : List ElementValue) → All IsWholeElement elements → AreWholeMessages (elements ∷ [])
one_whole elements whole = All-cons (All IsWholeElement) elements [] whole (All-nil (All IsWholeElement))

none_whole : AreWholeMessages []
none_whole = All-nil (All IsWholeElement)

heard_whole : AreWholeRead → (bytes : List ℕ) (link : ℕ) (answer : Result Message MsgFault) → IsReadAs bytes answer
    → AreWholeMessages (messages_in (Heard link answer))
heard_whole read bytes link (Ok (Init elements)) is = one_whole elements (read bytes (Init elements) is)
heard_whole read bytes link (Ok (Update elements)) is = one_whole elements (read bytes (Update elements) is)
heard_whole read bytes link (Ok (Presence value)) is = none_whole
heard_whole read bytes link (Err fault) is = none_whole

text_whole : AreWholeRead → (b : Bool) (link : ℕ) (bytes : List ℕ) (happening : Happening)
    → MatchBool b ((answer : Result Message MsgFault) × IsReadAs bytes answer
    × (happening ≡ Heard link answer)) (happening ≡ Nothing) → AreWholeMessages (messages_in happening)
text_whole read true link bytes happening heard = rw heard.2 (heard_whole read bytes link heard.0 heard.1)
text_whole read false link bytes happening heard = rw heard none_whole

event_whole : AreWholeRead → (joined : List ℕ) (event : LinkEvent) (happening : Happening)
    → IsHeardAs joined event happening → AreWholeMessages (messages_in happening)
event_whole read joined (Opened link) happening heard = rw heard none_whole
event_whole read joined (Text link bytes) happening heard =
    text_whole read (is_among joined link) link bytes happening heard
event_whole read joined (Closed link) happening heard = rw heard none_whole
event_whole read joined Idle happening heard = rw heard none_whole

rounds_whole : AreWholeRead → (limits : RoomLimits) (now : Serving) (count : ℕ) (rounds : List Round)
    → AreKeptRounds limits now count rounds → AreWholeMessages (messages_of rounds)
rounds_whole read limits now count [] are = none_whole
rounds_whole read limits now count (round ∷ rounds) are =
    All-append (All IsWholeElement) (messages_in round.happening) (messages_of rounds)
    (event_whole read now.room.joined round.event round.happening are.2.heard)
    (rounds_whole read limits (serving_after now round) (count_after count round) rounds are.3)

cut_whole : AreWholeRead → (count : ℕ) (room : RoomState) (last : Last) (new : RoomState)
    → IsCutKept count room last new → AreWholeMessages last.messages
cut_whole read count room last new (inl quiet) = rw (ap (λ (l : Last). l.messages) quiet.0) none_whole
cut_whole read count room last new (inr half) =
    rw half.messages (event_whole read room.joined half.event half.happening half.heard)

last_whole : AreWholeRead → (limits : RoomLimits) (now : Serving) (count : ℕ) (last : Last) (new : RoomState)
    (end : KeepEnd) → EndsKept limits now count last new end → AreWholeMessages last.messages
last_whole read limits now count last new JournalFault ended =
    rw ended.1.messages (event_whole read now.room.joined ended.1.event ended.1.happening ended.1.heard)
last_whole read limits now count last new Memory ended = cut_whole read count now.room last new ended.1
last_whole read limits now count last new LinkFault ended = rw (ap (λ (l : Last). l.messages) ended.1) none_whole
last_whole read limits now count last new LinksFull ended = rw (ap (λ (l : Last). l.messages) ended.2.1) none_whole
last_whole read limits now count last new AllClosed ended = rw (ap (λ (l : Last). l.messages) ended.1) none_whole
last_whole read limits now count last new IdleEnd ended = rw (ap (λ (l : Last). l.messages) ended.1) none_whole
last_whole read limits now count last new EventsFull ended = rw (ap (λ (l : Last). l.messages) ended.1) none_whole

pub account-whole : AreWholeRead → (limits : RoomLimits) (now : Serving) (count : ℕ) (new : RoomState) (end : KeepEnd)
    (account : Account) → IsAccount limits now count new end account
    → AreWholeMessages (messages_heard account)
account-whole read limits now count new end account is =
    All-append (All IsWholeElement) (messages_of account.rounds) account.last.messages
    (rounds_whole read limits now count account.rounds is.are_rounds)
    (last_whole read limits (serving_at now account.rounds) (count_at count account.rounds) account.last new end
    is.ended)

-- ---- the crash theorem over lists of records
abbrev pub AreRecovered : Type 0
AreRecovered = (head : Heading) (stored : List ElementValue) (messages : List (List ElementValue)) (left lost : List ℕ)
    (answer : Result Recovered KeepFault)
    → IsOpening head stored → AreWholeMessages messages → bytes_of (records_of head stored messages) ≡ left ++ lost
    → IsRecoveredAs left answer → IsAnswerAfter head stored messages left answer

-- what is recovered of a first part of a first record that isn't whole
abbrev IsNothing : List ℕ → Result Recovered KeepFault → Type 0
IsNothing left answer = HasNoLine left × (answer ≡ Ok (record { head = empty_head; elements = [] }))

no_line : (left : List ℕ) → lines_of left ≡ [] → HasNoLine left
no_line [] none = inl refl
no_line (b ∷ left) none = inr (record { some = λ e. cc; unended = none })

-- the messages that were told are the first ones
pub told_first : (tries : List Try) (messages : List (List ElementValue)) → (others : List (List ElementValue))
    × (messages ≡ told_last tries messages ++ others)
told_first [] messages = (messages, refl)
told_first (try ∷ tries) messages = ([], sym (append-nil messages))

taken_front : {X : Type 0} (xs ys : List X) → take (length xs) (xs ++ ys) ≡ xs
taken_front [] ys = refl
taken_front (x ∷ xs) ys = ap (λ t. x ∷ t) (taken_front xs ys)

records_front : (messages others : List (List ElementValue))
    → take (length messages) (map update_record (messages ++ others)) ≡ map update_record messages
records_front [] others = refl
records_front (m ∷ messages) others = ap (λ t. update_record m ∷ t) (records_front messages others)

records_long : (messages others : List (List ElementValue))
    → length messages ≤ length (map update_record (messages ++ others))
records_long [] others = omega arith
records_long (m ∷ messages) others = let long = records_long messages others in omega (arith, long)

at_least : (head : Heading) (stored : List ElementValue) (messages : List (List ElementValue))
    → AreWholeMessages messages → (answer : Result Recovered KeepFault)
    (told : List (List ElementValue)) (whole : ℕ) → IsAnswerTo head stored messages whole answer
    → length told + 1 ≤ whole → IsStopAnswer head stored messages told answer
at_least head stored messages sound answer told zero is least = absurd (omega (arith, least))
at_least head stored messages sound answer told (suc count) is least =
    record { whole = sound; count = count; first = is; all = omega (arith, least) }

pub unopened-answer : AreRecovered → (head : Heading) (stored : List ElementValue) → IsOpening head stored
    → (ja jb : SinkEnd) → HasGained (opening_record head stored ∷ []) ja jb
    → (left : List ℕ) (answer : Result Recovered KeepFault) → IsLeft ja jb left → IsRecoveredAs left answer
    → IsNothing left answer ⊎ IsStopAnswer head stored [] [] answer
unopened-answer law head stored opening ja jb gained left answer stop is =
    elim (cases_Bool (nat_le (length left) (length (state_text head stored)))) [
      | inl short ↦ inl (nothing-left (grind (arith, nat_tests)))
      | inr long ↦ inr (opening-left (grind (arith, nat_tests)))
    ]
  where
    part : (lost : List ℕ) × (bytes_of (opening_record head stored ∷ []) ≡ left ++ lost)
    part = left-of (opening_record head stored ∷ []) ja jb left gained stop

    nothing-left : length left ≤ length (state_text head stored) → IsNothing left answer
    nothing-left short =
        let none = unended (state_text head stored) left part.0 (state-none head stored opening.whole opening.elements)
        (sym (append-nil (opening_record head stored)) ∙ part.1) short in
        (no_line left none, nothing (lines_of left) answer none is)

    opening-left : length (state_text head stored) < length left → IsStopAnswer head stored [] [] answer
    opening-left long =
        let after = law head stored [] left part.0 answer opening none_whole part.1 is in
        let least = after.all (suc zero) (record {
          within = omega arith;
          long = omega (
            arith,
            long,
            length-append (opening_record head stored) [],
            length-append (state_text head stored) (10 ∷ []),
          );
        }) in
        at_least head stored [] none_whole answer [] after.whole after.is (omega (arith, least))

module _ (law : AreRecovered) (head : Heading) (stored : List ElementValue) (opening : IsOpening head stored)
    (told others messages : List (List ElementValue)) (parts : messages ≡ told ++ others)
    (whole : AreWholeMessages messages) (ja jb : SinkEnd) (gained : HasGained (records_of head stored messages) ja jb)
    (safe : IsSafeBy ja jb (opening_record head stored ++ message_bytes told)) (left : List ℕ)
    (answer : Result Recovered KeepFault) (stop : IsLeft ja jb left) (is : IsRecoveredAs left answer) where
  front : take (length told) (map update_record messages) ≡ map update_record told
  front = ap (λ ms. take (length told) (map update_record ms)) parts ∙ records_front told others

  long : length told ≤ length (map update_record messages)
  long = subst (λ ms. length told ≤ length (map update_record ms)) (sym parts) (records_long told others)

  have : HaveRecords left (records_of head stored messages) (suc (length told))
  have = record {
    within = (let more = long in omega (arith, more));
    long = subst (λ records. length (opening_record head stored ++ bytes_of records) ≤ length left) (sym front)
        (left-long ja jb (opening_record head stored ++ message_bytes told) left safe stop);
  }

  pub kept-answer-after : IsStopAnswer head stored messages told answer
  kept-answer-after =
      let part = left-of (records_of head stored messages) ja jb left gained stop in
      let after = law head stored messages left part.0 answer opening whole part.1 is in
      let least = after.all (suc (length told)) have in
      at_least head stored messages whole answer told after.whole after.is (omega (arith, least))

pub account-answer : AreRecovered → (head : Heading) (stored : List ElementValue) → IsOpening head stored
    → (account : Account) → AreWholeMessages (messages_heard account) → (ja jb : SinkEnd)
    → HasGained (records_of head stored (messages_heard account)) ja jb
    → IsSafeBy ja jb (opening_record head stored ++ message_bytes (messages_told account))
    → (left : List ℕ) (answer : Result Recovered KeepFault) → IsLeft ja jb left → IsRecoveredAs left answer
    → IsStopAnswer head stored (messages_heard account) (messages_told account) answer
account-answer law head stored opening account whole ja jb gained safe left answer stop is =
    let last = told_first account.last.tries account.last.messages in
    let parts : messages_heard account ≡ messages_told account ++ last.0 =
    ap (λ ms. messages_of account.rounds ++ ms) last.1
    ∙ sym (append_assoc (messages_of account.rounds) (told_last account.last.tries account.last.messages) last.0) in
    kept-answer-after law head stored opening (messages_told account) last.0 (messages_heard account) parts whole ja jb
    gained safe left answer stop is
