-- The rounds of a durable room are steps of it, and what it stores is what its messages store.
use Rattle.std.proofs.Common.{◌≡◌, ℕ, List, [], ◌∷◌, ◌++◌, flat_map, Ok, Err, refl, sym, ap, subst, ◌∙◌, append-nil, append_assoc}
use Rattle.std.proofs.lemmas.List.Concat.{flat_map-append}
use Rattle.elem.specs.ElementValue.{ElementValue}
use Rattle.elem_store.specs.Updates.{AreStored}
use Rattle.room_msg.specs.declared.message.Message.TheVariants.{Init, Update, Presence}
use Rattle.room_core.specs.Members.{AreSteps}
use Rattle.room_core.specs.Rooms.{RoomState, Happening, Joined, Heard, Left, Nothing, IsRoomAfter, taken_of}
use Rattle.room_core.specs.Serving.{Serving, Round, serving_after, serving_at, steps_of}
use Rattle.room_core.specs.Told.{links_gone}
use Rattle.room_core.specs.declared.limits.RoomLimits.{RoomLimits}
use Rattle.room_core.proofs.CallerLemmas.{none_taken, heard-read}
use Rattle.room_disk.specs.Keeping.{AreKeptRounds, count_after, messages_in, messages_of}

-- ---- steps

pub kept-steps : (limits : RoomLimits) (now : Serving) (count : ℕ) (rounds : List Round)
    → AreKeptRounds limits now count rounds → AreSteps now.room (steps_of rounds) (serving_at now rounds).room
kept-steps limits now count [] are = refl
kept-steps limits now count (round ∷ rounds) are =
    let one = are.2 in
    let left : IsRoomAfter round.stepped (Left (links_gone round.tries)) round.after = record {
      elements = none_taken round.stepped.elements round.after.elements (ap (λ (s : RoomState). s.elements) one.after);
      joined = ap (λ (s : RoomState). s.joined) one.after;
    } in (
      heard-read now.room.joined round.event round.happening one.heard,
      one.stepped,
      (tt, left, kept-steps limits (serving_after now round) (count_after count round) rounds are.3),
    )

-- ---- what is stored
taken_heard : (happening : Happening) → taken_of happening
    ≡ flat_map (λ (es : List ElementValue). es) (messages_in happening)
taken_heard (Joined link) = refl
taken_heard (Heard link (Ok (Init elements))) = sym (append-nil elements)
taken_heard (Heard link (Ok (Update elements))) = sym (append-nil elements)
taken_heard (Heard link (Ok (Presence value))) = refl
taken_heard (Heard link (Err fault)) = refl
taken_heard (Left links) = refl
taken_heard Nothing = refl

pub kept-stored : (limits : RoomLimits) (now : Serving) (count : ℕ) (rounds : List Round) (updates : List ElementValue)
    → AreKeptRounds limits now count rounds → AreStored updates now.room.elements
    → AreStored (updates ++ flat_map (λ (es : List ElementValue). es) (messages_of rounds))
    (serving_at now rounds).room.elements
kept-stored limits now count [] updates are stored =
    subst (λ (all : List ElementValue). AreStored all now.room.elements) (sym (append-nil updates)) stored
kept-stored limits now count (round ∷ rounds) updates are stored =
    let mine = flat_map (λ (es : List ElementValue). es) (messages_in round.happening) in
    let others = flat_map (λ (es : List ElementValue). es) (messages_of rounds) in
    let last = (serving_at (serving_after now round) rounds).room.elements in
    let stepped : AreStored (updates ++ mine) round.stepped.elements =
    subst (λ (taken : List ElementValue). AreStored (updates ++ taken) round.stepped.elements)
    (taken_heard round.happening) (are.2.stepped.elements updates stored) in
    let after : AreStored (updates ++ mine) round.after.elements =
    subst (λ (all : List ElementValue). AreStored (updates ++ mine) all)
    (sym (ap (λ (s : RoomState). s.elements) are.2.after)) stepped in
    subst (λ (all : List ElementValue). AreStored all last)
    (append_assoc updates mine others ∙ ap (λ (all : List ElementValue). updates ++ all)
    (sym (flat_map-append (λ (es : List ElementValue). es) (messages_in round.happening) (messages_of rounds))))
    (kept-stored limits (serving_after now round) (count_after count round) rounds (updates ++ mine) are.3 after)
