-- What a program holds stands for the living replica that a line leads to.
use Rattle.std.proofs.Common.{◌≡◌, ℕ, List, [], length, Result, refl, sym, ap, ◌∙◌, subst}
use Rattle.std.specs.List.Sorted.{IsStrictlySortedBy}
use Rattle.session_random.specs.Words.{generator_of, next_generator}
use Rattle.elem.specs.ElementValue.{ElementValue}
use Rattle.history.specs.Pairs.{StackStandsFor}
use Rattle.reconcile.specs.Ids.{AreStrictlySorted, HasAdded, HasDropped, free_elements}
use Rattle.replica.specs.Standing.{Kept, ReplicaStandsFor}
use Rattle.replica.specs.State.{State, after_delivery, nothing}
use Rattle.room_msg.specs.Messages.{IsReadAs}
use Rattle.room_msg.specs.declared.fault.MsgFault.{MsgFault}
use Rattle.room_msg.specs.declared.message.Message.{Message}
use Rattle.session_text.specs.declared.lines.Line.{Line}
use Rattle.session_text.specs.declared.lines.Line.TheVariants as lines
use Rattle.session_text.specs.declared.lines.Opening.{Opening}
use Rattle.session.specs.Worlds.{Act, Seat, delivered, head_of, holding, opening_elements, with_id, without_id}
use Rattle.session.proofs.CallerLemmas.{added-is, dropped-is}
use Rattle.line_replica.specs.Living.{Living, IsReply, of_act, of_read, of_taking, opened_as, seated, session_of, taken_text, unchanged}
use Rattle.line_replica.specs.Standing.{HasAnswered, Held, IsGiven, LifeStandsFor}
use Rattle.line_replica.specs.inner.Acting.{IsActed}

-- ---- the opening
none-sorted : AreStrictlySorted []
unfolding IsStrictlySortedBy
none-sorted = tt

pub opened-stands : (opening : Opening) (held : Held) (elements : List ElementValue) → held.number ≡ opening.number
    → held.generator ≡ generator_of opening.seed
    → held.head ≡ head_of (session_of opening []) → elements ≡ opening_elements (session_of opening [])
    → ReplicaStandsFor held.replica (after_delivery elements nothing)
    → LifeStandsFor held (opened_as opening)
unfolding delivered
opened-stands opening held elements number generator head same stands = record {
  number = number;
  generator = generator;
  head = head;
  replica = subst (λ es. ReplicaStandsFor held.replica (after_delivery es nothing)) same stands;
  rising = none-sorted;
}

-- ---- lines
-- a change, an undo or a redo
pub act-given : (told : List ℕ) (act : Act) (l : Living) (old new : Held) (text : List ℕ) → LifeStandsFor old l
    → IsActed told act text new.replica → act.state.held ≡ l.seat.state.held
    → new.number ≡ old.number → new.generator ≡ next_generator old.generator → new.head ≡ old.head
    → IsGiven (of_act told act l) text new
act-given told act l old new text stands made held number generator head = record {
  text = made.text;
  stands = record {
    number = number ∙ stands.number;
    generator = generator ∙ ap next_generator stands.generator;
    head = head ∙ stands.head;
    replica = made.stands;
    rising = subst AreStrictlySorted (sym held) stands.rising;
  };
}

-- the replica alone has changed
pub seat-given : (seat : Seat) (l : Living) (old new : Held) (text text' : List ℕ) → LifeStandsFor old l → text ≡ text'
    → ReplicaStandsFor new.replica seat.state → AreStrictlySorted seat.state.held
    → new.number ≡ old.number → new.generator ≡ old.generator → new.head ≡ old.head
    → IsGiven (seated text' seat l) text new
seat-given seat l old new text text' stands told after rising number generator head = record {
  text = told;
  stands = record {
    number = number ∙ stands.number;
    generator = generator ∙ stands.generator;
    head = head ∙ stands.head;
    replica = after;
    rising = rising;
  };
}

pub taking-given : (elements : List ElementValue) (l : Living) (old new : Held) (text : List ℕ) → LifeStandsFor old l
    → text ≡ taken_text (length (free_elements old.replica.held elements))
    → ReplicaStandsFor new.replica (after_delivery elements l.seat.state) → new.number ≡ old.number
    → new.generator ≡ old.generator → new.head ≡ old.head
    → IsGiven (of_taking elements l) text new
unfolding delivered
taking-given elements l old new text stands told after number generator head =
    seat-given (delivered elements l.seat) l old new text
    (taken_text (length (free_elements l.seat.state.held elements))) stands
    (told ∙ ap (λ ids. taken_text (length (free_elements ids elements))) stands.replica.held) after stands.rising number
    generator head

holding-stands : (ids : List (List ℕ)) (s : State) (old new : Kept) → ReplicaStandsFor old s
    → new ≡ record old { held = new.held } → new.held ≡ ids
    → ReplicaStandsFor new (record s { held = ids })
holding-stands ids s old new stands is same = record {
  stored = ap (λ (r : Kept). r.stored) is ∙ stands.stored;
  snapshot = ap (λ (r : Kept). r.snapshot) is ∙ stands.snapshot;
  undo = subst (λ (r : Kept). StackStandsFor r.stacks.undo s.undo) (sym is) stands.undo;
  redo = subst (λ (r : Kept). StackStandsFor r.stacks.redo s.redo) (sym is) stands.redo;
  held = same;
}

pub hold-given : (id : List ℕ) (l : Living) (old new : Held) (text text' : List ℕ) → LifeStandsFor old l → text ≡ text'
    → HasAdded old.replica.held id new.replica.held
    → new.replica ≡ record old.replica { held = new.replica.held } → new.number ≡ old.number
    → new.generator ≡ old.generator → new.head ≡ old.head
    → IsGiven (seated text' (holding (with_id id l.seat.state.held) l.seat) l) text new
hold-given id l old new text text' stands told has kept number generator head =
    let added = subst (λ ids. HasAdded ids id new.replica.held) stands.replica.held has in
    let is = added-is l.seat.state.held id new.replica.held stands.rising added in
    seat-given (holding (with_id id l.seat.state.held) l.seat) l old new text text' stands told
    (holding-stands (with_id id l.seat.state.held) l.seat.state old.replica new.replica stands.replica kept is)
    (subst AreStrictlySorted is added.ordered) number generator head

pub release-given : (id : List ℕ) (l : Living) (old new : Held) (text text' : List ℕ) → LifeStandsFor old l
    → text ≡ text' → HasDropped old.replica.held id new.replica.held
    → new.replica ≡ record old.replica { held = new.replica.held } → new.number ≡ old.number
    → new.generator ≡ old.generator → new.head ≡ old.head
    → IsGiven (seated text' (holding (without_id id l.seat.state.held) l.seat) l) text new
release-given id l old new text text' stands told has kept number generator head =
    let dropped = subst (λ ids. HasDropped ids id new.replica.held) stands.replica.held has in
    let is = dropped-is l.seat.state.held id new.replica.held stands.rising dropped in
    seat-given (holding (without_id id l.seat.state.held) l.seat) l old new text text' stands told
    (holding-stands (without_id id l.seat.state.held) l.seat.state old.replica new.replica stands.replica kept is)
    (subst AreStrictlySorted is dropped.ordered) number generator head

-- ---- answers
pub unchanged-answered : (l : Living) (line : Line) (text text' : List ℕ) (held : Held) → LifeStandsFor held l
    → text ≡ text' → IsReply l line (unchanged text' l) → HasAnswered l line text held
unchanged-answered l line text text' held stands same is =
    record { reply = unchanged text' l; is = is; given = record { text = same; stands = stands } }

pub received : (l : Living) (text : List ℕ) (read : Result Message MsgFault) (answer : List ℕ) (held : Held)
    → IsReadAs text read → IsGiven (of_read read l) answer held
    → HasAnswered l (lines.Receive text) answer held
received l text read answer held is given = record { reply = of_read read l; is = (read, is, refl); given = given }
