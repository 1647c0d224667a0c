-- Durable rooms that end with all done, and what holds of their members. This project's own; what
-- is stored is Excalidraw's reconcile.
use Rattle.std.specs.Prelude.{◌≡◌, ◌⊎◌, ℕ, List, [], true}
use Rattle.elem.specs.ElementValue.{ElementValue}
use Rattle.elem_store.specs.Updates.{AreStored, HaveSameUpdates}
use Rattle.room_core.specs.Members.{member_updates}
use Rattle.room_core.specs.Rooms.{RoomState, is_among}
use Rattle.room_core.specs.Serving.{Round, at_start, serving_at, steps_of}
use Rattle.room_core.specs.declared.limits.RoomLimits.{RoomLimits}
use Rattle.room_disk.specs.Closing.{LeadToKeptClose}
use Rattle.room_disk.specs.Keeping.{AreKeptRounds}
use Rattle.commands.specs.Closing.{NoneRose}
use Rattle.commands.specs.Ends.{HasLeft}
use Rattle.commands.specs.Keeping.{BeginsWith, limit_from}
use Rattle.commands.specs.Serving.{Begun, Ends, room_of}
use Rattle.commands.specs.declared.status.Status.{Status}
use Rattle.commands.specs.declared.status.Status.TheVariants.{Done, Memory}
use Rattle.commands.specs.declared.words.Begins.{Begins}
use Rattle.commands.specs.declared.words.Keeping.{Keeping}

-- A durable room over an input with which one begins, where no end fails and the links lead it to a
-- close within its limits, ends with all done, or memory is wanted.
abbrev pub IsKeptToClose : Keeping → Ends → Status → Type 0
IsKeptToClose keeping ends result =
    (bytes : List ℕ) (begun : Begun) → HasLeft (limit_from keeping.begins) ends.input.before bytes
    → BeginsWith keeping.begins bytes begun → NoneRose ends
    → LeadToKeptClose keeping.limits (at_start (room_of begun.stored)) ends.links.before
    ends.links.after
    → (result ≡ Done) ⊎ (result ≡ Memory)

-- The room is a durable one that begins with what an input says; after these rounds it is the last
-- one, and the link is joined.
pub record IsKeptMember (link : ℕ) (room last : RoomState) (rounds : List Round) : Type 0 where
  pub begins : Begins
  pub bytes : List ℕ
  pub begun : Begun
  pub begins_with : BeginsWith begins bytes begun
  pub opened : room ≡ room_of begun.stored
  pub limits : RoomLimits
  pub are_rounds : AreKeptRounds limits (at_start room) 0 rounds
  pub follows : last ≡ (serving_at (at_start room) rounds).room
  pub joined : is_among last.joined link ≡ true

-- What the updates of a member store is what the durable room stores.
abbrev pub MembersStoreTheKeptRoom : Type 0
MembersStoreTheKeptRoom =
    (link : ℕ) (room last : RoomState) (rounds : List Round) → IsKeptMember link room last rounds
    → AreStored (member_updates link room [] (steps_of rounds)) last.elements

-- Any list of the same updates, in whatever order, grouping and repetition, stores it too.
abbrev pub KeptMembersAgree : Type 0
KeptMembersAgree =
    (link : ℕ) (room last : RoomState) (rounds : List Round) (others news : List ElementValue)
    → IsKeptMember link room last rounds
    → HaveSameUpdates (member_updates link room [] (steps_of rounds)) others
    → AreStored others news → news ≡ last.elements
