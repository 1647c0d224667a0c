-- What the updates of a member store is what the room stores, step after step.
use Rattle.std.proofs.Common.{◌≡◌, ℕ, Bool, true, false, cond, not, ◌||◌, ◌==◌, List, [], ◌∷◌, ◌++◌, Result, Ok, Err, All, MatchBool, filter, nat_lt, refl, sym, ap, subst, ◌∙◌, append-nil}
use Rattle.std.specs.List.{list_any}
use Rattle.std.proofs.lemmas.Bool.{eqb-true}
use Rattle.std.proofs.lemmas.List.Elements.{All-append, All-nil}
use Rattle.std.proofs.lemmas.List.Folds.{list_any-append}
use Rattle.std.proofs.lemmas.Map.Views.{any-filter_same}
use Rattle.frac_keys.specs.Rising.{are_rising}
use Rattle.elem.specs.ElementValue.{ElementValue}
use Rattle.elem.specs.Said.{AreElements, HasValidTexts}
use Rattle.elem.specs.Facts.{IsElement}
use Rattle.elem_read.specs.Reading.{IsWholeElement}
use Rattle.elem_store.specs.Updates.{ids_of, AreStored, HaveSameUpdates}
use Rattle.elem_store.proofs.CallerLemmas.{AreStored-itself, elements-stored, stores-converge}
use Rattle.board_ends.specs.declared.links.LinkEvent.{LinkEvent}
use Rattle.board_ends.specs.declared.links.LinkEvent.TheVariants.{Opened, Text, Closed, Idle}
use Rattle.room_msg.specs.Messages.{IsReadAs, IsWholeMessage}
use Rattle.room_msg.specs.declared.fault.MsgFault.{MsgFault}
use Rattle.room_msg.specs.declared.message.Message.{Message}
use Rattle.room_msg.specs.declared.message.Message.TheVariants.{Init, Update, Presence}
use Rattle.room_msg.proofs.CallerLemmas.{answer-once}
use Rattle.room_core.specs.Rooms.{RoomState, Happening, Joined, Heard, Left, Nothing, IsHeardAs, IsRoomAfter, HaveTaken, is_among, message_updates, taken_of, with_link, without}
use Rattle.room_core.specs.Members.{Step, AreSteps, WasRead, updates_after, member_updates, has_message}
use Rattle.room_core.specs.Told.{links_gone}
use Rattle.room_core.specs.Serving.{Serving, Round, AreRounds, serving_after, serving_at, steps_of}
use Rattle.room_core.specs.declared.limits.RoomLimits.{RoomLimits}
use Rattle.room_core.proofs.Steps.{none_taken}

-- what passes a test among some passes it among all
any-more : (p q : ℕ → Bool) (x : ℕ) (xs : List ℕ) → (list_any p (filter q xs) ≡ true → list_any p xs ≡ true)
    → (b : Bool) → q x ≡ b → (c : Bool) → p x ≡ c
    → list_any p (filter q (x ∷ xs)) ≡ true → list_any p (x ∷ xs) ≡ true
any-more p q x xs others b is true one h = rw one refl
any-more p q x xs others true is false one h = rw one (others (rw (is, one) at h))
any-more p q x xs others false is false one h = rw one (others (rw is at h))

any-some : (p q : ℕ → Bool) (xs : List ℕ) → list_any p (filter q xs) ≡ true → list_any p xs ≡ true
any-some p q [] h = h
any-some p q (x ∷ xs) h = any-more p q x xs (any-some p q xs) (q x) refl (p x) refl h

-- a link that isn't the one that joined was joined before
joined-before : (links : List ℕ) (link other : ℕ) → (link == other) ≡ false
    → is_among (with_link links link) other ≡ true → is_among links other ≡ true
joined-before links link other differ h =
    let p : ℕ → Bool = λ x. x == other in
    let low = filter (λ x. nat_lt x link) links in
    let high = filter (λ x. nat_lt link x) links in
    let parts : (list_any p low || list_any p high) ≡ true =
    rw differ at (sym (list_any-append p low (link ∷ high)) ∙ h) in
    found (list_any p low) (list_any p high) parts (any-some p (λ x. nat_lt x link) links)
    (any-some p (λ x. nat_lt link x) links)
  where
    found : (a b : Bool) → (a || b) ≡ true → (a ≡ true → is_among links other ≡ true)
        → (b ≡ true → is_among links other ≡ true) → is_among links other ≡ true
    found true b h left right = left refl
    found false true h left right = right refl
    found false false h left right = absurd cc

-- a joined link is the sender, or is sent the message
has-message : (links : List ℕ) (sender link : ℕ) → is_among links link ≡ true → has_message links sender link ≡ true
has-message links sender link member = by (sender == link) refl
  where
    by : (b : Bool) → (sender == link) ≡ b → (b || is_among (without links (sender ∷ [])) link) ≡ true
    by true is = refl
    by false is =
        let kept = any-filter_same (λ x. x == link) (λ x. not (is_among (sender ∷ []) x)) true
        (λ k same. rw (eqb-true k link same, is) refl) links in
        kept ∙ member

-- where nothing is taken, what is stored stays so
same-stored : (had old new : List ElementValue) → HaveTaken old [] new → AreStored had old → AreStored had new
same-stored had old new taken are = rw (append-nil had) at (taken had are)

module _ (link : ℕ) (old new : RoomState) (had : List ElementValue) (ordered : are_rising (ids_of old.elements) ≡ true)
    (stored : is_among old.joined link ≡ true → AreStored had old.elements) where
  step-joined : (b : Bool) (other : ℕ) → (other == link) ≡ b → IsRoomAfter old (Joined other) new
      → is_among new.joined link ≡ true → AreStored (updates_after link old had (Joined other)) new.elements
  step-joined true other is after member =
      rw is (same-stored old.elements old.elements new.elements after.elements (AreStored-itself old.elements ordered))
  step-joined false other is after member =
      rw is (same-stored had old.elements new.elements after.elements
      (stored (joined-before old.joined other link is (rw after.joined at member))))

  member-step : (happening : Happening) → IsRoomAfter old happening new → is_among new.joined link ≡ true
      → AreStored (updates_after link old had happening) new.elements
  member-step (Joined other) after member = step-joined (other == link) other refl after member
  member-step (Heard sender (Ok message)) after member =
      let before : is_among old.joined link ≡ true = rw after.joined at member in
      rw (has-message old.joined sender link before) (after.elements had (stored before))
  member-step (Heard sender (Err fault)) after member =
      same-stored had old.elements new.elements after.elements (stored (rw after.joined at member))
  member-step (Left links) after member =
      same-stored had old.elements new.elements after.elements
      (stored (any-some (λ x. x == link) (λ x. not (is_among links x)) old.joined (rw after.joined at member)))
  member-step Nothing after member =
      same-stored had old.elements new.elements after.elements (stored (rw after.joined at member))

members-stored : (link : ℕ) (room : RoomState) (had : List ElementValue) (steps : List Step) (last : RoomState)
    → are_rising (ids_of room.elements) ≡ true
    → (is_among room.joined link ≡ true → AreStored had room.elements) → AreSteps room steps last
    → is_among last.joined link ≡ true
    → AreStored (member_updates link room had steps) last.elements
members-stored link room had [] last ordered stored same member = rw same (stored (rw same at member))
members-stored link room had (step ∷ steps) last ordered stored are member =
    members-stored link step.after (updates_after link room had step.happening) steps last
    ((are.1.elements room.elements (AreStored-itself room.elements ordered)).ordered)
    (member-step link room step.after had ordered stored step.happening are.1) are.2 member

pub member-stores : (link : ℕ) (room last : RoomState) (steps : List Step) → room.joined ≡ []
    → are_rising (ids_of room.elements) ≡ true → AreSteps room steps last
    → is_among last.joined link ≡ true → AreStored (member_updates link room [] steps) last.elements
member-stores link room last steps none ordered are member =
    members-stored link room [] steps last ordered (λ one. absurd (nobody (rw none at one))) are member
  where
    nobody : false ≡ true → ⊥
    nobody h = cc

-- ---- the updates of a member are elements, as all that is read is
module _ (read-whole : (bytes : List ℕ) (message : Message) → IsReadAs bytes (Ok message) → IsWholeMessage message)
    (whole-elements : (elements : List ElementValue) → All IsWholeElement elements → AreElements elements) where
  message-elements : (message : Message) → IsWholeMessage message → AreElements (message_updates message)
  message-elements (Init elements) whole = whole-elements elements whole
  message-elements (Update elements) whole = whole-elements elements whole
  message-elements (Presence value) whole = All-nil (λ e. IsElement e × HasValidTexts e)

  taken-elements : (happening : Happening) → WasRead happening → AreElements (taken_of happening)
  taken-elements (Joined link) read = All-nil (λ e. IsElement e × HasValidTexts e)
  taken-elements (Heard link (Ok message)) (bytes, read) = message-elements message (read-whole bytes message read)
  taken-elements (Heard link (Err fault)) read = All-nil (λ e. IsElement e × HasValidTexts e)
  taken-elements (Left links) read = All-nil (λ e. IsElement e × HasValidTexts e)
  taken-elements Nothing read = All-nil (λ e. IsElement e × HasValidTexts e)

  both-elements : (b : Bool) (first second : List ElementValue) → AreElements first → AreElements second
      → AreElements (cond b first second)
  both-elements true first second are also = are
  both-elements false first second are also = also

  had-elements : (link : ℕ) (room : RoomState) (had : List ElementValue) (happening : Happening) → WasRead happening
      → AreElements room.elements → AreElements had
      → AreElements (updates_after link room had happening)
  had-elements link room had (Joined other) read own are = both-elements (other == link) room.elements had own are
  had-elements link room had (Heard sender (Ok message)) read own are =
      both-elements (has_message room.joined sender link) (had ++ message_updates message) had
      (All-append (λ e. IsElement e × HasValidTexts e) had (message_updates message) are
      (taken-elements (Heard sender (Ok message)) read)) are
  had-elements link room had (Heard sender (Err fault)) read own are = are
  had-elements link room had (Left links) read own are = are
  had-elements link room had Nothing read own are = are

  member-elements : (link : ℕ) (room : RoomState) (had : List ElementValue) (steps : List Step) (last : RoomState)
      → are_rising (ids_of room.elements) ≡ true
      → AreElements room.elements → AreElements had → AreSteps room steps last
      → AreElements (member_updates link room had steps)
  member-elements link room had [] last ordered own are steps = are
  member-elements link room had (step ∷ steps) last ordered own are (read, after, others) =
      let stored = after.elements room.elements (AreStored-itself room.elements ordered) in
      let new : AreElements step.after.elements =
      elements-stored (room.elements ++ taken_of step.happening) step.after.elements
      (All-append (λ e. IsElement e × HasValidTexts e) room.elements (taken_of step.happening) own
      (taken-elements step.happening read)) stored in
      member-elements link step.after (updates_after link room had step.happening) steps last stored.ordered new
      (had-elements link room had step.happening read own are) others

  pub members-agree : (link : ℕ) (room last : RoomState) (steps : List Step) (others news : List ElementValue)
      → room.joined ≡ [] → are_rising (ids_of room.elements) ≡ true
      → AreElements room.elements → AreSteps room steps last → is_among last.joined link ≡ true
      → HaveSameUpdates (member_updates link room [] steps) others
      → AreStored others news → news ≡ last.elements
  members-agree link room last steps others news none ordered own are member same stored =
      sym (stores-converge _ others last.elements news same
      (member-elements link room [] steps last ordered own (All-nil (λ e. IsElement e × HasValidTexts e)) are)
      (member-stores link room last steps none ordered are member) stored)

-- what an event is to a room was read of its bytes
read-of : (b : Bool) (link : ℕ) (bytes : List ℕ) (happening : Happening)
    → MatchBool b ((answer : Result Message MsgFault) × IsReadAs bytes answer
    × (happening ≡ Heard link answer)) (happening ≡ Nothing) → WasRead happening
read-of true link bytes happening (answer, read, is) = subst (λ h. WasRead h) (sym is) (bytes, read)
read-of false link bytes happening is = subst (λ h. WasRead h) (sym is) tt

pub heard-read : (joined : List ℕ) (event : LinkEvent) (happening : Happening) → IsHeardAs joined event happening
    → WasRead happening
heard-read joined (Opened link) happening is = subst (λ h. WasRead h) (sym is) tt
heard-read joined (Text link bytes) happening is = read-of (is_among joined link) link bytes happening is
heard-read joined (Closed link) happening is = subst (λ h. WasRead h) (sym is) tt
heard-read joined Idle happening is = subst (λ h. WasRead h) (sym is) tt

-- rounds are steps
pub rounds-steps : (limits : RoomLimits) (now : Serving) (rounds : List Round) → AreRounds limits now rounds
    → AreSteps now.room (steps_of rounds) (serving_at now rounds).room
rounds-steps limits now [] are = refl
rounds-steps limits now (round ∷ rounds) are =
    let one = are.2 in
    let left : IsRoomAfter round.stepped (Left (links_gone round.tries)) round.after = record {
      elements = none_taken round.stepped.elements round.after.elements (ap (λ (s : RoomState). s.elements) one.after);
      joined = ap (λ (s : RoomState). s.joined) one.after;
    } in (
      heard-read now.room.joined round.event round.happening one.heard,
      one.stepped,
      (tt, left, rounds-steps limits (serving_after now round) rounds are.3),
    )

-- a text of a link is one thing to a room
heard-once : (b : Bool) (link : ℕ) (bytes : List ℕ) (happening other : Happening)
    → MatchBool b ((answer : Result Message MsgFault) × IsReadAs bytes answer
    × (happening ≡ Heard link answer)) (happening ≡ Nothing)
    → MatchBool b ((answer : Result Message MsgFault) × IsReadAs bytes answer
    × (other ≡ Heard link answer)) (other ≡ Nothing) → happening ≡ other
heard-once true link bytes happening other one two =
    one.2 ∙ ap (Heard link) (answer-once bytes one.0 two.0 one.1 two.1) ∙ sym two.2
heard-once false link bytes happening other one two = one ∙ sym two

pub hearing-once : (joined : List ℕ) (event : LinkEvent) (happening other : Happening)
    → IsHeardAs joined event happening → IsHeardAs joined event other → happening ≡ other
hearing-once joined (Opened link) happening other one two = one ∙ sym two
hearing-once joined (Text link bytes) happening other one two =
    heard-once (is_among joined link) link bytes happening other one two
hearing-once joined (Closed link) happening other one two = one ∙ sym two
hearing-once joined Idle happening other one two = one ∙ sym two
