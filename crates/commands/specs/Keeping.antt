-- What serving a durable room does, from what it begins with to what its journal has at its end.
-- This project's own.
use Rattle.std.specs.Prelude.{◌≡◌, ◌⊎◌, ℕ, List, [], ◌++◌, Option, None, Ok, codes}
use Rattle.board_ends.specs.Counts.{Rose}
use Rattle.board_ends.specs.Ends.{SourceEnd, SinkEnd}
use Rattle.room_core.specs.Rooms.{RoomState}
use Rattle.room_disk.specs.Keeping.{IsKept, IsUnopened}
use Rattle.room_disk.specs.Recovering.{HasNoRecord, Recovered, IsRecoveredAs}
use Rattle.room_disk.specs.Resuming.{resumed}
use Rattle.room_disk.specs.declared.keep_end.KeepEnd.{KeepEnd}
use Rattle.room_disk.specs.declared.keep_end.KeepEnd.TheVariants.{AllClosed, Idle as IdleEnd, LinkFault as LinkEnd, LinksFull, EventsFull, JournalFault, Memory as MemoryEnd}
use Rattle.scene_file.specs.declared.scene.Scene.{Scene}
use Rattle.commands.specs.Answers.{IsRefusal}
use Rattle.commands.specs.Boards.{IsBoardOf}
use Rattle.commands.specs.Ends.{Span, GaveWithin, GaveTooMuch, WasRead, limit}
use Rattle.commands.specs.Faults.{newline, status_of, Noted, IsNoted}
use Rattle.commands.specs.Input.{HasScenes}
use Rattle.commands.specs.Journals.{IsResumeRefusal}
use Rattle.commands.specs.Serving.{Begun, Ends, room_of}
use Rattle.commands.specs.declared.status.Fault.{Fault}
use Rattle.commands.specs.declared.status.Fault.TheVariants as fault
use Rattle.commands.specs.declared.status.InputRefusal.{InputRefusal}
use Rattle.commands.specs.declared.status.Status.{Status}
use Rattle.commands.specs.declared.status.Status.TheVariants as status
use Rattle.commands.specs.declared.words.Begins.{Begins}
use Rattle.commands.specs.declared.words.Begins.TheVariants.{Scenes, Journal}
use Rattle.commands.specs.declared.words.Keeping.{Keeping}

-- how many bytes the input of a durable room has at most: a journal may have any number of them
abbrev pub limit_from : Begins → Option ℕ
limit_from Scenes = limit
limit_from Journal = None

-- What a durable room begins with over these bytes: the board of the scenes that they hold; or what
-- is recovered of the journal that they are, each stored element without a key with one above the
-- greatest of all. A journal is empty, or has a record.
abbrev pub BeginsWith : Begins → List ℕ → Begun → Type 0
BeginsWith Scenes bytes begun =
    (scenes : List Scene) × HasScenes bytes scenes × IsBoardOf scenes begun.head begun.stored
BeginsWith Journal bytes begun =
    (found : Recovered) × (¬ HasNoRecord bytes) × IsRecoveredAs bytes (Ok found)
    × (begun ≡ record { head = found.head; stored = resumed found.elements })

-- the first fault of bytes with which no room begins
abbrev pub IsBeginsRefusal : Begins → List ℕ → InputRefusal → Type 0
IsBeginsRefusal Scenes bytes found = IsRefusal bytes found
IsBeginsRefusal Journal bytes found = IsResumeRefusal bytes found

-- The input, read to its end, says what a durable room begins with; the room was served to this
-- end. Either its first record wasn't made safe, and nobody listened; or the links listened, and
-- the room was kept: its journal is the output, which took the records of the run, all of them
-- unless it failed, and whatever a stop leaves of them, all that was told is recovered.
pub record WasKeptTo (keeping : Keeping) (end : KeepEnd) (ends : Ends) : Type 0 where
  pub bytes : List ℕ
  pub read : WasRead (limit_from keeping.begins) ends.input bytes
  pub begun : Begun
  pub begins : BeginsWith keeping.begins bytes begun
  pub last : RoomState
  pub kept : (IsUnopened begun.head (room_of begun.stored) last ends.links.before ends.links.after
      ends.output.before ends.output.after end)
      ⊎ (IsKept keeping.limits begun.head keeping.port (room_of begun.stored) last
      ends.links.before ends.links.after ends.output.before ends.output.after end)
  pub link_rose : end ≡ LinkEnd → Rose ends.links.before.faults ends.links.after.faults
  pub output_rose : end ≡ JournalFault → Rose ends.output.before.faults ends.output.after.faults

-- The input was refused: it is too long, or no room begins with it, for this first fault.
abbrev pub WasBeginsRefused : Begins → Fault → Span SourceEnd → Type 0
WasBeginsRefused begins fault.TooLong input = GaveTooMuch (limit_from begins) input
WasBeginsRefused begins (fault.Refused found) input =
    (bytes : List ℕ) × WasRead (limit_from begins) input bytes × IsBeginsRefusal begins bytes found
WasBeginsRefused begins other input = ⊥

-- Nothing was written to the output, and nothing asked of the links.
pub record IsUntouched (ends : Ends) : Type 0 where
  pub output : ends.output.after ≡ ends.output.before
  pub links : ends.links.after ≡ ends.links.before

-- the status that the end of a durable room gives
abbrev pub kept_status : KeepEnd → Status
kept_status AllClosed = status.Done
kept_status IdleEnd = status.Idle
kept_status LinkEnd = status.LinkFault
kept_status LinksFull = status.Refused
kept_status EventsFull = status.Refused
kept_status JournalFault = status.WriteFault
kept_status MemoryEnd = status.Memory

-- the line that tells the end of a durable room, where it is a fault
abbrev pub kept_line : KeepEnd → List ℕ
kept_line AllClosed = []
kept_line IdleEnd = []
kept_line LinkEnd = codes "board: link fault" ++ newline
kept_line LinksFull = codes "board: room: links full" ++ newline
kept_line EventsFull = codes "board: room: events full" ++ newline
kept_line JournalFault = codes "board: write fault" ++ newline
kept_line MemoryEnd = codes "board: out of memory" ++ newline

-- How a run that serves a durable room ends, by its status. Each end of the room is told by its
-- line; of an input that is refused, and of one that can't be read, nothing is served and nothing
-- written. At want of memory either nothing was served and nothing written, or the room was kept
-- until then.
abbrev pub EndsKeeping : Keeping → Ends → Span SinkEnd → Status → Type 0
EndsKeeping keeping ends notes status.Done = WasKeptTo keeping AllClosed ends
EndsKeeping keeping ends notes status.Idle = WasKeptTo keeping IdleEnd ends
EndsKeeping keeping ends notes status.LinkFault =
    WasKeptTo keeping LinkEnd ends × IsNoted (kept_line LinkEnd) notes.before notes.after
EndsKeeping keeping ends notes status.Refused =
    ((found : Fault) × (status_of found ≡ status.Refused)
    × WasBeginsRefused keeping.begins found ends.input × IsUntouched ends
    × Noted found notes.before notes.after)
    ⊎ ((end : KeepEnd) × (kept_status end ≡ status.Refused) × WasKeptTo keeping end ends
    × IsNoted (kept_line end) notes.before notes.after)
EndsKeeping keeping ends notes status.ReadFault =
    Rose ends.input.before.faults ends.input.after.faults
    × GaveWithin (limit_from keeping.begins) ends.input × IsUntouched ends
    × Noted fault.Read notes.before notes.after
EndsKeeping keeping ends notes status.WriteFault =
    WasKeptTo keeping JournalFault ends × Noted fault.Write notes.before notes.after
EndsKeeping keeping ends notes status.Memory =
    (IsUntouched ends ⊎ WasKeptTo keeping MemoryEnd ends)
    × Noted fault.Memory notes.before notes.after
EndsKeeping keeping ends notes status.Usage = ⊥

-- What serving a durable room over an input with these bytes comes to: it begins with what they
-- hold, and was served to an end that has this status; or they are refused for their first fault.
abbrev pub KeepsInput : Keeping → List ℕ → Ends → Span SinkEnd → Status → Type 0
KeepsInput keeping bytes ends notes result =
    ((begun : Begun) × BeginsWith keeping.begins bytes begun
    × ((end : KeepEnd) × WasKeptTo keeping end ends × (result ≡ kept_status end)))
    ⊎ ((found : InputRefusal) × IsBeginsRefusal keeping.begins bytes found
    × (result ≡ status.Refused)
    × Noted (fault.Refused found) notes.before notes.after)
