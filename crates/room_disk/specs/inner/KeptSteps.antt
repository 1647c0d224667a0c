-- A durable room under way, event by event.
use Rattle.std.specs.Prelude.{◌≡◌, ◌≢◌, ℕ, ◌+◌, ◌≤◌, List, [], ◌∷◌, length, map, Option, Some, None, IfSome}
use Rattle.elem.specs.ElementValue.{ElementValue}
use Rattle.board_ends.specs.Ends.{LinksEnd, SinkEnd, Took, IsSynced}
use Rattle.board_ends.specs.Events.{opening_of}
use Rattle.board_ends.specs.declared.links.LinkEvent.{LinkEvent}
use Rattle.board_ends.specs.declared.links.LinkEvent.TheVariants.{Opened, Text, Closed, Idle}
use Rattle.room_core.specs.Rooms.{RoomState}
use Rattle.room_core.specs.Serving.{Serving, Round, serving_after}
use Rattle.room_core.specs.Told.{Tells}
use Rattle.room_core.specs.declared.limits.RoomLimits.{RoomLimits}
use Rattle.room_disk.specs.Keeping.{Account, Last, IsAccount, IsCutKept, IsHeldBack, IsKeptRound, HasGained, count_after, events_in, kept_text, messages_heard, messages_in, messages_told, told_last, tries_in}
use Rattle.room_disk.specs.Records.{bytes_of, record_of, update_record}
use Rattle.room_disk.specs.declared.keep_end.KeepEnd.{KeepEnd}
use Rattle.room_disk.specs.declared.keep_end.KeepEnd.TheVariants.{JournalFault, Memory}

-- the link whose text an event is
abbrev pub sender_of : LinkEvent → ℕ
sender_of (Opened link) = 0
sender_of (Text link bytes) = link
sender_of (Closed link) = 0
sender_of Idle = 0

-- the bytes of a record, where there is one
abbrev pub record_bytes : Option (List ℕ) → List ℕ
record_bytes None = []
record_bytes (Some text) = record_of text

-- what tells the sender of a message with a record that it is kept
abbrev pub kept_answers : ℕ → ℕ → Option (List ℕ) → List (ℕ × List ℕ)
kept_answers sender count None = []
kept_answers sender count (Some text) = (sender, kept_text (count + 1)) ∷ []

-- why a record isn't kept: for want of memory the journal is as before; where it failed it took a
-- first part of the record
abbrev pub IsRecordStopped : Option (List ℕ) → SinkEnd → SinkEnd → KeepEnd → Type 0
IsRecordStopped kept before after JournalFault =
    (text : List ℕ) × (kept ≡ Some text) × HasGained (record_of text ∷ []) before after
IsRecordStopped kept before after Memory = after ≡ before
IsRecordStopped kept before after other = ⊥

-- how many messages are kept with it
abbrev pub count_with : ℕ → Option (List ℕ) → ℕ
count_with count None = count
count_with count (Some text) = count + 1

-- the records of messages
abbrev pub message_bytes : List (List ElementValue) → List ℕ
message_bytes messages = bytes_of (map update_record messages)

-- Between the two so many bytes of a journal became safe, where it tells its bytes.
abbrev pub IsSafeBy : SinkEnd → SinkEnd → List ℕ → Type 0
IsSafeBy before after bytes =
    IfSome before.held (λ held. (safe : ℕ) × (after.safe ≡ Some safe)
    × (length held + length bytes ≤ safe))

-- One event was kept and served whole, with so many messages kept before and after.
pub record IsKeptEvent (room : RoomState) (count : ℕ) (event : LinkEvent) (new : RoomState)
    (counted : ℕ) (links links_after : LinksEnd) (journal journal_after : SinkEnd) : Type 0 where
  pub round : Round
  pub of : round.event ≡ event
  pub is_round : IsKeptRound count room round
  pub room_after : new ≡ round.after
  pub count_is : counted ≡ count_after count round
  pub told : Tells links links_after [] round.tries
  pub took : Took journal journal_after (message_bytes (messages_in round.happening))
  pub synced : IsSynced journal_after

-- why an event isn't stepped whole
abbrev pub IsStoppedBy : ℕ → RoomState → Last → RoomState → KeepEnd → Type 0
IsStoppedBy count room last new JournalFault = IsHeldBack room last × (new ≡ room)
IsStoppedBy count room last new Memory = IsCutKept count room last new
IsStoppedBy count room last new other = ⊥

-- what the journal took of the message that came last, and how much of it is safe
pub record IsLastTaken (last : Last) (journal journal_after : SinkEnd) (end : KeepEnd) :
    Type 0 where
  pub gained : HasGained (map update_record last.messages) journal journal_after
  pub whole : end ≢ JournalFault → Took journal journal_after (message_bytes last.messages)
  pub safe : IsSafeBy journal journal_after (message_bytes (told_last last.tries last.messages))

-- An event that was not stepped whole, and what was tried for it.
pub record IsStoppedEvent (room : RoomState) (count : ℕ) (event : LinkEvent) (new : RoomState)
    (links links_after : LinksEnd) (journal journal_after : SinkEnd)
    (end : KeepEnd) : Type 0 where
  pub last : Last
  pub of : last.event ≡ Some event
  pub stopped : IsStoppedBy count room last new end
  pub told : Tells links links_after [] last.tries
  pub taken : IsLastTaken last journal journal_after end

-- One event was given, kept and served whole.
pub record IsKeptStep (limits : RoomLimits) (now next : Serving) (count counted : ℕ)
    (links links_after : LinksEnd) (journal journal_after : SinkEnd) : Type 0 where
  pub round : Round
  pub within : now.opened + opening_of round.event ≤ limits.links
  pub is_round : IsKeptRound count now.room round
  pub follows : next ≡ serving_after now round
  pub count_is : counted ≡ count_after count round
  pub told : Tells links links_after (round.event ∷ []) round.tries
  pub took : Took journal journal_after (message_bytes (messages_in round.happening))
  pub synced : IsSynced journal_after

-- A room under way was kept and served from here on to its end.
pub record IsKeptOn (limits : RoomLimits) (now : Serving) (count : ℕ) (new : RoomState)
    (links links_after : LinksEnd) (journal journal_after : SinkEnd)
    (end : KeepEnd) : Type 0 where
  pub account : Account
  pub is : IsAccount limits now count new end account
  pub told : Tells links links_after (events_in account) (tries_in account)
  pub gained : HasGained (map update_record (messages_heard account)) journal journal_after
  pub whole : end ≢ JournalFault
      → Took journal journal_after (message_bytes (messages_heard account))
  pub safe : IsSafeBy journal journal_after (message_bytes (messages_told account))
