use Rattle.std.proofs.Common.{ℕ, List, sym, subst}
use Rattle.elem.specs.Said.{AreElements}
use Rattle.elem_store.proofs.CallerLemmas.{elements-stored}
use Rattle.room_core.specs.Members.{AreSteps}
use Rattle.room_core.specs.Rooms.{RoomState}
use Rattle.room_core.specs.Serving.{Serving, Round, AreRounds, at_start, serving_at, steps_of}
use Rattle.room_core.specs.declared.limits.RoomLimits.{RoomLimits}
use Rattle.commands.specs.Boards.{updates_of}
use Rattle.commands.specs.Members.{IsMember}
use Rattle.commands.proofs.Reread.{updates-elements}
use Rattle.commands.proofs.headline.members_hold.Goals as goal

own-elements : (link : ℕ) (room last : RoomState) (rounds : List Round) → IsMember link room last rounds
    → AreElements room.elements
own-elements link room last rounds is =
    elements-stored (updates_of is.scenes) room.elements (updates-elements is.bytes is.scenes is.has_scenes)
    is.board.stores

member-steps : ((limits : RoomLimits) (now : Serving) (rounds : List Round) → AreRounds limits now rounds
    → AreSteps now.room (steps_of rounds) (serving_at now rounds).room)
    → (link : ℕ) (room last : RoomState) (rounds : List Round) → IsMember link room last rounds
    → AreSteps room (steps_of rounds) last
member-steps steps link room last rounds is =
    subst (λ (end : RoomState). AreSteps room (steps_of rounds) end) (sym is.follows)
    (steps is.limits (at_start room) rounds is.are_rounds)

pub returns-clause-members_store_the_room : goal.returns-clause-members_store_the_room
returns-clause-members_store_the_room c link room last rounds is =
    c.member_stores_the_room.ensures link room last (steps_of rounds) is.fresh is.board.stores.ordered
    (member-steps c.rounds_are_steps.ensures link room last rounds is) is.joined

pub returns-clause-members_agree : goal.returns-clause-members_agree
returns-clause-members_agree c link room last rounds others news is same stored =
    c.members_agree.ensures link room last (steps_of rounds) others news is.fresh is.board.stores.ordered
    (own-elements link room last rounds is)
    (member-steps c.rounds_are_steps.ensures link room last rounds is) is.joined same stored
