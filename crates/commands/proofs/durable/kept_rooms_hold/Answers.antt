use Rattle.std.proofs.Common.{◌≡◌, ℕ, List, [], ◌∷◌, map, true, sym, ap, subst, ◌∙◌}
use Rattle.elem_store.specs.Updates.{AreStored, ids_of}
use Rattle.frac_keys.specs.Rising.{are_rising}
use Rattle.room_core.specs.Members.{AreSteps, member_updates}
use Rattle.room_core.specs.Rooms.{RoomState, is_among}
use Rattle.room_core.specs.Serving.{Round, at_start, serving_at, steps_of}
use Rattle.commands.specs.KeptRooms.{IsKeptMember}
use Rattle.commands.specs.KeptRuns.{begun_of, link_of}
use Rattle.commands.proofs.BegunRooms.{IsSoundStore, ResumeLaws, begun-sound}
use Rattle.commands.proofs.KeptChains.{runs-chained}
use Rattle.commands.proofs.durable.kept_rooms_hold.Goals as goal

-- the room of a member begins whole, and without links
record BeganSound (room : RoomState) : Type 0 where
  fresh : room.joined ≡ []
  sound : IsSoundStore room.elements

began-sound : ResumeLaws → (link : ℕ) (room last : RoomState) (rounds : List Round)
    → IsKeptMember link room last rounds → BeganSound room
began-sound laws link room last rounds is = record {
  fresh = ap (λ (s : RoomState). s.joined) is.opened;
  sound = subst (λ (s : RoomState). IsSoundStore s.elements) (sym is.opened)
      (begun-sound laws is.begins is.bytes is.begun is.begins_with);
}

pub returns-clause-members_store : goal.returns-clause-members_store
returns-clause-members_store c link room last rounds is =
    let laws : ResumeLaws = record {
      recovered = c.recovered_is_whole.ensures.elements;
      whole = c.resumed_elements_have_keys.ensures.whole;
      keys = c.resumed_elements_have_keys.ensures.keys;
      ids = c.resumed_elements_have_keys.ensures.ids;
      filled = c.resumed_elements_have_keys.ensures.filled;
    } in
    let began = began-sound laws link room last rounds is in
    subst (λ (end : RoomState). AreStored (member_updates link room [] (steps_of rounds)) end.elements)
    (sym is.follows)
    (c.member_stores_the_kept_room.ensures is.limits room rounds link began.fresh began.sound.ordered is.are_rounds
    (subst (λ (end : RoomState). is_among end.joined link ≡ true) is.follows is.joined))

pub returns-clause-members_agree : goal.returns-clause-members_agree
returns-clause-members_agree c link room last rounds others news is same stored =
    let laws : ResumeLaws = record {
      recovered = c.recovered_is_whole.ensures.elements;
      whole = c.resumed_elements_have_keys.ensures.whole;
      keys = c.resumed_elements_have_keys.ensures.keys;
      ids = c.resumed_elements_have_keys.ensures.ids;
      filled = c.resumed_elements_have_keys.ensures.filled;
    } in
    let began = began-sound laws link room last rounds is in
    c.members_agree.ensures link room last (steps_of rounds) others news began.fresh began.sound.ordered
    (c.what_is_read_is_an_element.ensures.whole room.elements began.sound.whole)
    (subst (λ (end : RoomState). AreSteps room (steps_of rounds) end) (sym is.follows)
    (c.kept_rounds_are_steps.ensures is.limits (at_start room) 0 rounds is.are_rounds)) is.joined same stored

pub returns-clause-nothing_is_lost : goal.returns-clause-nothing_is_lost
returns-clause-nothing_is_lost c first runs last found e are recorded read among =
    let laws : ResumeLaws = record {
      recovered = c.recovered_is_whole.ensures.elements;
      whole = c.resumed_elements_have_keys.ensures.whole;
      keys = c.resumed_elements_have_keys.ensures.keys;
      ids = c.resumed_elements_have_keys.ensures.ids;
      filled = c.resumed_elements_have_keys.ensures.filled;
    } in
    let sound = begun-sound laws first.keeping.begins first.was.bytes first.was.begun first.was.begins in
    c.nothing_kept_is_lost.ensures (begun_of first) found (map link_of (first ∷ runs)) e sound.whole sound.ordered
    (runs-chained c.recovered_is_unique.ensures laws first runs last found sound are recorded read) among
