-- A durable room that is served over links: what comes of each event, what its journal gains, what
-- ends it, and what a stop leaves. This project's own.
use Rattle.std.specs.Prelude.{◌≡◌, ◌≢◌, ◌⊎◌, ℕ, ◌+◌, ◌≤◌, List, [], ◌∷◌, ◌++◌, codes, decimal, length, map, flat_map, option_to_list, Option, Some, None, IfSome, Result, Ok, Err, All}
use Rattle.std.specs.Option.{option_map}
use Rattle.json_text.specs.Characters.{quote}
use Rattle.json_text.specs.Compact.{object_text}
use Rattle.elem.specs.ElementValue.{ElementValue}
use Rattle.elem_read.specs.Reading.{IsWholeElement}
use Rattle.board_ends.specs.Counts.{one_more}
use Rattle.board_ends.specs.Ends.{LinksEnd, SinkEnd, Took}
use Rattle.board_ends.specs.Events.{opening_of}
use Rattle.board_ends.specs.declared.links.LinkEvent.{LinkEvent}
use Rattle.board_ends.specs.declared.links.LinkEvent.TheVariants.{Opened}
use Rattle.room_msg.specs.declared.message.Message.TheVariants.{Init, Update, Presence}
use Rattle.room_core.specs.Rooms.{RoomState, Happening, Joined, Heard, Left, Nothing, IsHeardAs, IsRoomAfter, texts_of, without}
use Rattle.room_core.specs.Serving.{Serving, Round, at_start, end_of, serving_after, serving_at}
use Rattle.room_core.specs.Told.{Try, Tells, texts_tried, links_gone}
use Rattle.room_core.specs.declared.limits.RoomLimits.{RoomLimits}
use Rattle.room_core.specs.declared.limits.ServeEnd.{ServeEnd}
use Rattle.room_core.specs.declared.limits.ServeEnd.TheVariants as serve
use Rattle.scene_file.specs.Heads.{Heading}
use Rattle.room_disk.specs.Records.{bytes_of, opening_record, records_of}
use Rattle.room_disk.specs.Recovering.{HasNoLine, Recovered, IsRecoveredAs, empty_head}
use Rattle.room_disk.specs.Stops.{HasFirst}
use Rattle.room_disk.specs.declared.fault.KeepFault.{KeepFault}
use Rattle.room_disk.specs.declared.keep_end.KeepEnd.{KeepEnd}
use Rattle.room_disk.specs.declared.keep_end.KeepEnd.TheVariants.{AllClosed, Idle, LinkFault, LinksFull, EventsFull, JournalFault, Memory}

-- the text that tells the sender of a message that so many messages are kept by now
abbrev pub kept_text : ℕ → List ℕ
kept_text number =
    object_text ((codes "type", quote (codes "KEPT"))
    ∷ (codes "payload", object_text ((codes "messages", decimal number) ∷ [])) ∷ [])

-- The messages with a record, and the elements of each: of what happened there is one, where an
-- Init or an Update was heard.
abbrev pub messages_in : Happening → List (List ElementValue)
messages_in (Joined link) = []
messages_in (Heard link (Ok (Init elements))) = elements ∷ []
messages_in (Heard link (Ok (Update elements))) = elements ∷ []
messages_in (Heard link (Ok (Presence value))) = []
messages_in (Heard link (Err fault)) = []
messages_in (Left links) = []
messages_in Nothing = []

-- what tells the sender that its message is kept, where so many were kept before
abbrev pub kept_texts : ℕ → Happening → List (ℕ × List ℕ)
kept_texts count (Joined link) = []
kept_texts count (Heard link (Ok (Init elements))) = (link, kept_text (count + 1)) ∷ []
kept_texts count (Heard link (Ok (Update elements))) = (link, kept_text (count + 1)) ∷ []
kept_texts count (Heard link (Ok (Presence value))) = []
kept_texts count (Heard link (Err fault)) = []
kept_texts count (Left links) = []
kept_texts count Nothing = []

-- the texts of a step: those of every room, and after them that the message is kept
abbrev pub step_texts : ℕ → RoomState → Happening → List (ℕ × List ℕ)
step_texts count room happening = texts_of room happening ++ kept_texts count happening

-- A round in this room, in which so many messages were kept before. All its texts were tried,
-- before any link left that was gone.
pub record IsKeptRound (count : ℕ) (room : RoomState) (round : Round) : Type 0 where
  pub heard : IsHeardAs room.joined round.event round.happening
  pub stepped : IsRoomAfter room round.happening round.stepped
  pub tried : texts_tried round.tries ≡ step_texts count room round.happening
  pub after : round.after ≡ record round.stepped {
    joined =
        without round.stepped.joined (links_gone round.tries);
  }

-- the messages of rounds
abbrev pub messages_of : List Round → List (List ElementValue)
messages_of rounds = flat_map (λ (round : Round). messages_in round.happening) rounds

-- how many messages are kept after a round
abbrev pub count_after : ℕ → Round → ℕ
count_after count round = count + length (messages_in round.happening)

-- and after several
abbrev pub count_at : ℕ → List Round → ℕ
count_at count [] = count
count_at count (round ∷ rounds) = count_at (count_after count round) rounds

-- Each round follows on the one before it; nothing had ended the room before any of them, and none
-- opened one link too many.
abbrev pub AreKeptRounds : RoomLimits → Serving → ℕ → List Round → Type 0
AreKeptRounds limits now count [] = Unit {0}
AreKeptRounds limits now count (round ∷ rounds) =
    (end_of limits now ≡ None) × (now.opened + opening_of round.event ≤ limits.links)
    × IsKeptRound count now.room round
    × AreKeptRounds limits (serving_after now round) (count_after count round) rounds

-- The event that was given last, where it was not stepped whole; the texts that were tried for it;
-- and its message, where one was heard whose record the journal was to take.
pub record Last : Type 0 where
  pub event : Option LinkEvent
  pub tries : List Try
  pub messages : List (List ElementValue)

-- nothing was made of the last event, if one was given
abbrev pub untouched : Option LinkEvent → Last
untouched event = record { event = event; tries = []; messages = [] }

-- An event whose message was heard and whose record the journal didn't take: nothing of the step
-- was sent.
pub record IsHeldBack (room : RoomState) (last : Last) : Type 0 where
  pub event : LinkEvent
  pub given : last.event ≡ Some event
  pub happening : Happening
  pub heard : IsHeardAs room.joined event happening
  pub messages : last.messages ≡ messages_in happening
  pub one : 1 ≤ length last.messages
  pub unsent : last.tries ≡ []

-- An event that was stepped, of whose texts the first were tried.
pub record IsHalfKept (count : ℕ) (room : RoomState) (last : Last) (new : RoomState) : Type 0 where
  pub event : LinkEvent
  pub given : last.event ≡ Some event
  pub happening : Happening
  pub heard : IsHeardAs room.joined event happening
  pub messages : last.messages ≡ messages_in happening
  pub stepped : IsRoomAfter room happening new
  pub rest : List (ℕ × List ℕ)
  pub tried : step_texts count room happening ≡ texts_tried last.tries ++ rest

-- A step that ended for want of memory: it was not made, its record was not begun and nothing was
-- sent; or it was made, and the first of its texts were tried.
abbrev pub IsCutKept : ℕ → RoomState → Last → RoomState → Type 0
IsCutKept count room last new =
    ((last ≡ untouched last.event) × (new ≡ room)) ⊎ IsHalfKept count room last new

-- the end of a durable room that is ended by what ends every room
abbrev pub keep_end : ServeEnd → KeepEnd
keep_end serve.AllClosed = AllClosed
keep_end serve.Idle = Idle
keep_end serve.LinkFault = LinkFault
keep_end serve.LinksFull = LinksFull
keep_end serve.EventsFull = EventsFull
keep_end serve.Memory = Memory

-- The end of a durable room under way after its whole rounds, by its cause: so many messages are
-- kept, and this came last.
abbrev pub EndsKept : RoomLimits → Serving → ℕ → Last → RoomState → KeepEnd → Type 0
EndsKept limits now count last new LinkFault =
    (end_of limits now ≡ None) × (last ≡ untouched None) × (new ≡ now.room)
EndsKept limits now count last new LinksFull =
    (end_of limits now ≡ None) × (now.opened ≡ limits.links)
    × ((link : ℕ) × (last ≡ untouched (Some (Opened link)))) × (new ≡ now.room)
EndsKept limits now count last new JournalFault =
    (end_of limits now ≡ None) × IsHeldBack now.room last × (new ≡ now.room)
EndsKept limits now count last new Memory =
    (end_of limits now ≡ None) × IsCutKept count now.room last new
EndsKept limits now count last new end =
    (option_map keep_end (end_of limits now) ≡ Some end) × (last ≡ untouched None)
    × (new ≡ now.room)

-- What was made of what the links told: the whole rounds, and what came last.
pub record Account : Type 0 where
  pub rounds : List Round
  pub last : Last

-- the events that were given, and the texts that were tried
abbrev pub events_in : Account → List LinkEvent
events_in account =
    map (λ (round : Round). round.event) account.rounds ++ option_to_list account.last.event

abbrev pub tries_in : Account → List Try
tries_in account = flat_map (λ (round : Round). round.tries) account.rounds ++ account.last.tries

-- the messages that the journal was to take: those of the rounds, and what came last
abbrev pub messages_heard : Account → List (List ElementValue)
messages_heard account = messages_of account.rounds ++ account.last.messages

-- The message that came last, where a text of its step was tried.
abbrev pub told_last : List Try → List (List ElementValue) → List (List ElementValue)
told_last [] messages = []
told_last (try ∷ tries) messages = messages

-- The messages of which a text was tried, first and last: those of the rounds, each of whose texts
-- were all tried, the one that tells the sender how many are kept too; and what came last, if a
-- text of it was tried.
abbrev pub messages_told : Account → List (List ElementValue)
messages_told account =
    messages_of account.rounds ++ told_last account.last.tries account.last.messages

-- A room under way, with so many messages kept, was kept and served to this end, and this is what
-- was made of it.
pub record IsAccount (limits : RoomLimits) (now : Serving) (count : ℕ) (new : RoomState)
    (end : KeepEnd) (account : Account) : Type 0 where
  pub are_rounds : AreKeptRounds limits now count account.rounds
  pub ended : EndsKept limits (serving_at now account.rounds) (count_at count account.rounds)
      account.last new end

-- Between the two a journal took a first part of these records, where it tells its bytes.
pub record HasGained (records : List (List ℕ)) (before after : SinkEnd) : Type 0 where
  pub part : List ℕ
  pub rest : List ℕ
  pub parts : bytes_of records ≡ part ++ rest
  pub took : Took before after part

-- These bytes are what a stop leaves of what a journal gained between the two: a first part, with
-- all that is safe.
pub record IsLeft (before after : SinkEnd) (left : List ℕ) : Type 0 where
  pub held : List ℕ
  pub lost : List ℕ
  pub was : before.held ≡ Some held
  pub is : after.held ≡ Some (held ++ (left ++ lost))
  pub safe : IfSome after.safe (λ safe. safe ≤ length held + length left)

-- What is recovered of what a stop leaves of a journal that was to take these messages behind its
-- first record, of which these were told: the opening head, and the store of the opening updates
-- and then of the first messages, at least of all those that were told. The messages are whole.
pub record IsStopAnswer (head : Heading) (stored : List ElementValue)
    (messages told : List (List ElementValue)) (answer : Result Recovered KeepFault) : Type 0 where
  pub whole : All (All IsWholeElement) messages
  pub count : ℕ
  pub first : HasFirst head stored messages count answer
  pub all : length told ≤ count

-- The links were called once to listen, and since then listen on this port; or that call failed,
-- and the links told nothing.
pub record ListenOnce (port : ℕ) (before after : LinksEnd) (end : KeepEnd) : Type 0 where
  pub once : after.listens ≡ one_more before.listens
  pub on_port : (after.port ≡ Some port)
      ⊎ (((end ≡ LinkFault) ⊎ (end ≡ Memory)) × (after.port ≡ before.port)
      × Tells before after [] [])

-- A durable room whose first record wasn't made safe: nobody listened, no event was taken and
-- nothing was sent. A stop leaves a first part of that record: the opening is recovered of it, or
-- no line of it ends and nothing is.
pub record IsUnopened (head : Heading) (room new : RoomState) (links links_after : LinksEnd)
    (journal journal_after : SinkEnd) (end : KeepEnd) : Type 0 where
  pub cause : (end ≡ JournalFault) ⊎ (end ≡ Memory)
  pub room_same : new ≡ room
  pub links_same : links_after ≡ links
  pub gained : HasGained (opening_record head room.elements ∷ []) journal journal_after
  pub stops : (left : List ℕ) (answer : Result Recovered KeepFault)
      → IsLeft journal journal_after left → IsRecoveredAs left answer
      → (HasNoLine left × (answer ≡ Ok (record { head = empty_head; elements = [] })))
      ⊎ IsStopAnswer head room.elements [] [] answer

-- A durable room was kept and served from its first record on to its end: the links listened, told
-- just these events, and of the texts just those that were tried; the journal took a first part of
-- the records, and all of them unless it failed; and whatever a stop leaves of them, all that was
-- told is recovered.
pub record IsKept (limits : RoomLimits) (head : Heading) (port : ℕ) (room new : RoomState)
    (links links_after : LinksEnd) (journal journal_after : SinkEnd)
    (end : KeepEnd) : Type 0 where
  pub account : Account
  pub is : IsAccount limits (at_start room) 0 new end account
  pub listens : ListenOnce port links links_after end
  pub told : Tells links links_after (events_in account) (tries_in account)
  pub gained : HasGained (records_of head room.elements (messages_heard account)) journal
      journal_after
  pub whole : end ≢ JournalFault
      → Took journal journal_after (bytes_of
      (records_of head room.elements (messages_heard account)))
  pub stops : (left : List ℕ) (answer : Result Recovered KeepFault)
      → IsLeft journal journal_after left → IsRecoveredAs left answer
      → IsStopAnswer head room.elements (messages_heard account) (messages_told account) answer
