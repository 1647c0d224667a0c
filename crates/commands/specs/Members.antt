-- What holds of the members of every room that is served. This project's own; what is stored is
-- Excalidraw's reconcile.
use Rattle.std.specs.Prelude.{◌≡◌, ℕ, List, [], true}
use Rattle.elem.specs.ElementValue.{ElementValue}
use Rattle.elem_store.specs.Updates.{AreStored, HaveSameUpdates}
use Rattle.room_core.specs.Members.{member_updates}
use Rattle.room_core.specs.Rooms.{RoomState, is_among}
use Rattle.room_core.specs.Serving.{Round, AreRounds, at_start, serving_at, steps_of}
use Rattle.room_core.specs.declared.limits.RoomLimits.{RoomLimits}
use Rattle.scene_file.specs.Heads.{Heading}
use Rattle.scene_file.specs.declared.scene.Scene.{Scene}
use Rattle.commands.specs.Boards.{IsBoardOf}
use Rattle.commands.specs.Input.{HasScenes}

-- The room begins with what the board of an input's scenes stores; after these rounds it is the
-- last one, and the link is joined.
pub record IsMember (link : ℕ) (room last : RoomState) (rounds : List Round) : Type 0 where
  pub bytes : List ℕ
  pub scenes : List Scene
  pub has_scenes : HasScenes bytes scenes
  pub head : Heading
  pub board : IsBoardOf scenes head room.elements
  pub fresh : room.joined ≡ []
  pub limits : RoomLimits
  pub are_rounds : AreRounds limits (at_start room) rounds
  pub follows : last ≡ (serving_at (at_start room) rounds).room
  pub joined : is_among last.joined link ≡ true

-- What the updates of a member store is what the room stores.
abbrev pub MembersStoreTheRoom : Type 0
MembersStoreTheRoom =
    (link : ℕ) (room last : RoomState) (rounds : List Round) → IsMember link room last rounds
    → AreStored (member_updates link room [] (steps_of rounds)) last.elements

-- Any list of the same updates, in whatever order, grouping and repetition, stores it too.
abbrev pub MembersAgree : Type 0
MembersAgree =
    (link : ℕ) (room last : RoomState) (rounds : List Round) (others news : List ElementValue)
    → IsMember link room last rounds
    → HaveSameUpdates (member_updates link room [] (steps_of rounds)) others
    → AreStored others news → news ≡ last.elements
