-- What serving a room does, from the scenes that it begins with to the scene that is written at its
-- end. This project's own.
use Rattle.std.specs.Prelude.{◌≡◌, ◌≢◌, ◌⊎◌, ℕ, List, [], ◌++◌, Some, codes, take}
use Rattle.board_ends.specs.Counts.{Rose, one_more}
use Rattle.board_ends.specs.Ends.{SourceEnd, SinkEnd, LinksEnd, Took}
use Rattle.elem.specs.ElementValue.{ElementValue}
use Rattle.scene_file.specs.Heads.{Heading}
use Rattle.scene_file.specs.declared.scene.Scene.{Scene}
use Rattle.room_core.specs.Rooms.{RoomState}
use Rattle.room_core.specs.Serving.{at_start, IsServed}
use Rattle.room_core.specs.Told.{Tells}
use Rattle.room_core.specs.declared.limits.ServeEnd.{ServeEnd}
use Rattle.room_core.specs.declared.limits.ServeEnd.TheVariants.{AllClosed, Idle as IdleEnd, LinkFault as LinkEnd, LinksFull, EventsFull, Memory as MemoryEnd}
use Rattle.commands.specs.Answers.{IsRefusal}
use Rattle.commands.specs.Boards.{IsBoardOf, IsSceneOfStored}
use Rattle.commands.specs.Ends.{Span, GaveWithin, GaveTooMuch, WasRead, limit}
use Rattle.commands.specs.Faults.{newline, status_of, Noted, IsNoted}
use Rattle.commands.specs.Input.{HasScenes}
use Rattle.commands.specs.declared.status.Fault.{Fault}
use Rattle.commands.specs.declared.status.Fault.TheVariants as fault
use Rattle.commands.specs.declared.status.InputRefusal.{InputRefusal}
use Rattle.commands.specs.declared.status.Status.{Status}
use Rattle.commands.specs.declared.status.Status.TheVariants as status
use Rattle.commands.specs.declared.words.Service.{Service}

-- What is seen of a run's input, output and links.
pub record Ends : Type 0 where
  pub input : Span SourceEnd
  pub output : Span SinkEnd
  pub links : Span LinksEnd

abbrev pub ends : Span SourceEnd → Span SinkEnd → Span LinksEnd → Ends
ends input output links = record { input = input; output = output; links = links }

-- a room that stores these elements, without links
abbrev pub room_of : List ElementValue → RoomState
room_of stored = record { elements = stored; joined = [] }

-- What a room begins with: the head of its scenes, and what is stored of their updates.
pub record Begun : Type 0 where
  pub head : Heading
  pub stored : List ElementValue

-- A room that began so was served to this end; and the text is that of the scene of what it stores
-- then, under its head.
pub record WasHeld (service : Service) (begun : Begun) (links : Span LinksEnd) (end : ServeEnd)
    (text : List ℕ) : Type 0 where
  pub last : RoomState
  pub served :
      IsServed service.limits (at_start (room_of begun.stored)) last links.before links.after end
  pub scene : IsSceneOfStored service.layout begun.head last.elements text

-- The room of these scenes, which begins with what their board stores under their joined head, was
-- held so.
pub record IsRoomOf (service : Service) (scenes : List Scene) (links : Span LinksEnd)
    (end : ServeEnd) (text : List ℕ) : Type 0 where
  pub begun : Begun
  pub held : WasHeld service begun links end text
  pub board : IsBoardOf scenes begun.head begun.stored

-- The links were called once to listen, and since then listen on the port of the service; or that
-- call failed, and the links told nothing. No event is given before links listen.
pub record ListensOn (service : Service) (end : ServeEnd) (links : Span LinksEnd) : Type 0 where
  pub once : links.after.listens ≡ one_more links.before.listens
  pub on_port : (links.after.port ≡ Some service.port)
      ⊎ ((end ≡ LinkEnd) × (links.after.port ≡ links.before.port)
      × Tells links.before links.after [] [])

-- The input, read to its end, is scenes; their room was served to this end, which is never want of
-- memory, and a fault of the links only where their count of faults rose; and so much was written
-- of the scene at its end.
pub record WasServed (service : Service) (end : ServeEnd) (ends : Ends)
    (part : List ℕ → List ℕ) : Type 0 where
  pub bytes : List ℕ
  pub read : WasRead limit ends.input bytes
  pub scenes : List Scene
  pub has_scenes : HasScenes bytes scenes
  pub text : List ℕ
  pub room : IsRoomOf service scenes ends.links end text
  pub listens : ListensOn service end ends.links
  pub whole : end ≢ MemoryEnd
  pub rose : end ≡ LinkEnd → Rose ends.links.before.faults ends.links.after.faults
  pub took : Took ends.output.before ends.output.after (part text)

-- All of the scene at the end was written.
abbrev pub WasServedTo : Service → ServeEnd → Ends → Type 0
WasServedTo service end ends = WasServed service end ends (λ text. text)

-- A first part of it was written, and the output's count of faults rose.
abbrev pub WasServedInPart : Service → Ends → Type 0
WasServedInPart service ends =
    ((end : ServeEnd) × (n : ℕ) × WasServed service end ends (take n))
    × Rose ends.output.before.faults ends.output.after.faults

-- The input was refused: it is too long, or no scenes, with this first fault.
abbrev pub WasInputRefused : Fault → Span SourceEnd → Type 0
WasInputRefused fault.TooLong input = GaveTooMuch limit input
WasInputRefused (fault.Refused found) input =
    (bytes : List ℕ) × WasRead limit input bytes × IsRefusal bytes found
WasInputRefused other input = ⊥

-- the status that a room's end gives
abbrev pub end_status : ServeEnd → Status
end_status AllClosed = status.Done
end_status IdleEnd = status.Idle
end_status LinkEnd = status.LinkFault
end_status LinksFull = status.Refused
end_status EventsFull = status.Refused
end_status MemoryEnd = status.Memory

-- the line that tells a room's end, where it is a fault
abbrev pub end_line : ServeEnd → List ℕ
end_line AllClosed = []
end_line IdleEnd = []
end_line LinkEnd = codes "board: link fault" ++ newline
end_line LinksFull = codes "board: room: links full" ++ newline
end_line EventsFull = codes "board: room: events full" ++ newline
end_line MemoryEnd = codes "board: out of memory" ++ newline

-- How a run that serves a room ends, by its status. Each end of the room is told by its line; of an
-- input that is refused, and of one that can't be read, nothing is served and nothing written.
abbrev pub EndsServing : Service → Ends → Span SinkEnd → Status → Type 0
EndsServing service ends notes status.Done = WasServedTo service AllClosed ends
EndsServing service ends notes status.Idle = WasServedTo service IdleEnd ends
EndsServing service ends notes status.LinkFault =
    WasServedTo service LinkEnd ends × Rose ends.links.before.faults ends.links.after.faults
    × IsNoted (end_line LinkEnd) notes.before notes.after
EndsServing service ends notes status.Refused =
    ((found : Fault) × (status_of found ≡ status.Refused) × WasInputRefused found ends.input
    × Noted found notes.before notes.after)
    ⊎ ((end : ServeEnd) × (end_status end ≡ status.Refused) × WasServedTo service end ends
    × IsNoted (end_line end) notes.before notes.after)
EndsServing service ends notes status.ReadFault =
    Rose ends.input.before.faults ends.input.after.faults × GaveWithin limit ends.input
    × Noted fault.Read notes.before notes.after
EndsServing service ends notes status.WriteFault =
    WasServedInPart service ends × Noted fault.Write notes.before notes.after
EndsServing service ends notes status.Memory = Noted fault.Memory notes.before notes.after
EndsServing service ends notes status.Usage = ⊥

-- What serving a room over an input with these bytes comes to: the room of its scenes was served to
-- an end that has this status, unless the output failed; or the input is refused with its first
-- fault.
abbrev pub ServesInput : Service → List ℕ → Ends → Span SinkEnd → Status → Type 0
ServesInput service bytes ends notes result =
    ((scenes : List Scene) × HasScenes bytes scenes
    × (((end : ServeEnd) × WasServedTo service end ends × (result ≡ end_status end))
    ⊎ ((result ≡ status.WriteFault) × Rose ends.output.before.faults ends.output.after.faults)))
    ⊎ ((found : InputRefusal) × IsRefusal bytes found × (result ≡ status.Refused)
    × Noted (fault.Refused found) notes.before notes.after)
