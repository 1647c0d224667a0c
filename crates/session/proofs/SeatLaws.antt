-- What a replica holds and stores after each call, and what its seat then stands for.
use Rattle.std.proofs.Common.{◌≡◌, ℕ, ◌+◌, List, length, Option, Some, None, Result, Ok, Err, refl, sym, ap, ◌∙◌, subst, add-zero, length-append}
use Rattle.elem.specs.ElementValue.{ElementValue}
use Rattle.view.specs.Shown.{live_elements, shown}
use Rattle.effects.specs.Changed.{outcome}
use Rattle.board_commands.specs.declared.command.Capture.{Capture}
use Rattle.board_commands.specs.declared.command.Capture.TheVariants.{Now, Later, Never}
use Rattle.board_commands.specs.declared.command.Command.{Command}
use Rattle.effects.specs.declared.refusal.Refusal.{Refusal}
use Rattle.reconcile.specs.Ids.{AreStrictlySorted, free_elements}
use Rattle.history.specs.Pairs.{StackStandsFor}
use Rattle.history.specs.declared.planned.Direction.{Direction}
use Rattle.undo_model.specs.Carrying.{taken_all}
use Rattle.undo_model.specs.Differing.{pending}
use Rattle.undo_model.specs.Steps.{Turn}
use Rattle.replica.specs.Standing.{ReplicaStandsFor, Kept}
use Rattle.replica.specs.State.{State, captured, stored_with, outcome_on, after_outcome, after_change, after_delivery, turn_on, after_turn, after_turn_of}
use Rattle.replica.proofs.CallerLemmas.{given-held, turn-held-of, noted-stored}
use Rattle.session.specs.declared.seat.Seat.{Seat as KeptSeat}
use Rattle.session.specs.declared.outcome.Outcome.{Outcome}
use Rattle.session.specs.declared.outcome.Outcome.TheVariants.{Given, Refused}
use Rattle.session.specs.inner.Standing.{SeatStandsFor, IsActed}
use Rattle.session.specs.Worlds.{Seat, Act, change_on, delivered, given_of, holding, of_command, of_step, turn_by}

-- ---- what stays over a call, and what is stored then

pub captured-stored : (s : State) → (captured s).stored ≡ s.stored
captured-stored s = noted-stored (pending s.snapshot s.stored) s

pub outcome-held : (capture : Capture) (outcome : Result (List ElementValue) Refusal) (s : State)
    → (after_outcome capture outcome s).held ≡ s.held
outcome-held capture (Ok given) s = given-held capture given s
outcome-held capture (Err refusal) s = refl

pub outcome-stored : (capture : Capture) (outcome : Result (List ElementValue) Refusal) (s : State)
    → (after_outcome capture outcome s).stored ≡ taken_all (given_of (of_command outcome)) s.stored
outcome-stored Now (Ok given) s = captured-stored (stored_with given s)
outcome-stored Later (Ok given) s = refl
outcome-stored Never (Ok given) s = refl
outcome-stored capture (Err refusal) s = refl

pub turn-stored : (direction : Direction) (found : Option (Result Turn (List ℕ))) (s : State)
    → (after_turn_of direction found s).stored ≡ taken_all (given_of (of_step found)) s.stored
turn-stored direction None s = captured-stored s
turn-stored direction (Some (Err id)) s = refl
turn-stored direction (Some (Ok turn)) s = refl

-- ---- a seat
-- its replica comes to a state with the same held ids, and so many updates more are counted
pub acted-stands : (act : Act) (old : KeptSeat) (s : Seat) (outcome : Outcome) (new : KeptSeat) → SeatStandsFor old s
    → ReplicaStandsFor new.replica act.state → act.state.held ≡ s.state.held
    → outcome ≡ act.outcome → new.taken ≡ old.taken + length (given_of outcome) → IsActed act s outcome new
acted-stands act old s outcome new stands after held told counted = record {
  told = told;
  after = record {
    replica = after;
    rising = subst AreStrictlySorted (sym held) stands.rising;
    taken = counted ∙ (λ i. stands.taken i + length (given_of (told i)))
        ∙ sym (length-append s.taken (given_of act.outcome));
  };
}

-- a refusal leaves the replica as it was
pub refused-stands : (act : Act) (old : KeptSeat) (s : Seat) (why : Option Refusal) (replica : Kept)
    → SeatStandsFor old s → replica ≡ old.replica → act.state ≡ s.state → Refused why ≡ act.outcome
    → IsActed act s (Refused why) (record { replica = replica; taken = old.taken })
refused-stands act old s why replica stands same state told =
    acted-stands act old s (Refused why) (record { replica = replica; taken = old.taken }) stands
    (subst (ReplicaStandsFor replica) (sym state) (subst (λ (r : Kept). ReplicaStandsFor r s.state) (sym same)
    stands.replica))
    (ap (λ (st : State). st.held) state) told (sym (add-zero old.taken))

-- ---- a change
module _ (command : Command) (capture : Capture) (time nonce : ℕ) (stored : List ElementValue) (s : State)
    (same : stored ≡ s.stored) where
  found : (answer : Result (List ElementValue) Refusal)
      → outcome stored (shown (live_elements stored)) command time nonce ≡ answer
      → outcome_on command time nonce s ≡ answer
  found answer is = subst (λ es. outcome es (shown (live_elements es)) command time nonce ≡ answer) same is

  pub change-given : (given : List ElementValue) → outcome stored (shown (live_elements stored)) command time nonce
      ≡ Ok given → Given given ≡ (change_on command capture time nonce s).outcome
  unfolding change_on
  change-given given is = sym (ap of_command (found (Ok given) is))

  pub change-refused : (refusal : Refusal) → outcome stored (shown (live_elements stored)) command time nonce
      ≡ Err refusal → Refused (Some refusal) ≡ (change_on command capture time nonce s).outcome
  unfolding change_on
  change-refused refusal is = sym (ap of_command (found (Err refusal) is))

  pub change-left : (refusal : Refusal) → outcome stored (shown (live_elements stored)) command time nonce ≡ Err refusal
      → (change_on command capture time nonce s).state ≡ s
  unfolding change_on
  change-left refusal is = ap (λ o. after_outcome capture o s) (found (Err refusal) is)

pub change-held : (command : Command) (capture : Capture) (time nonce : ℕ) (s : State)
    → (change_on command capture time nonce s).state.held ≡ s.held
unfolding change_on
change-held command capture time nonce s = outcome-held capture (outcome_on command time nonce s) s

pub change-state : (command : Command) (capture : Capture) (time nonce : ℕ) (s : State) (replica : Kept)
    → ReplicaStandsFor replica (after_change command capture time nonce s)
    → ReplicaStandsFor replica (change_on command capture time nonce s).state
unfolding change_on
change-state command capture time nonce s replica stands = stands

-- ---- undo and redo
module _ (direction : Direction) (time nonce : ℕ) (s : State) where
  pub turn-told : (answer : Option (Result Turn (List ℕ))) → turn_on direction time nonce s ≡ answer
      → of_step answer ≡ (turn_by direction time nonce s).outcome
  unfolding turn_by
  turn-told answer is = sym (ap of_step is)

  pub turn-left : (id : List ℕ) → turn_on direction time nonce s ≡ Some (Err id)
      → (turn_by direction time nonce s).state ≡ s
  unfolding turn_by
  turn-left id is = ap (λ found. after_turn_of direction found s) is

  pub turn_by-held : (turn_by direction time nonce s).state.held ≡ s.held
  unfolding turn_by
  turn_by-held = turn-held-of direction (turn_on direction time nonce s) s

  pub turn-state : (replica : Kept) → ReplicaStandsFor replica (after_turn direction time nonce s)
      → ReplicaStandsFor replica (turn_by direction time nonce s).state
  unfolding turn_by
  turn-state replica stands = stands

-- ---- a delivery, and held ids
pub delivered-stands : (list : List ElementValue) (old : KeptSeat) (s : Seat) (new : KeptSeat) → SeatStandsFor old s
    → ReplicaStandsFor new.replica (after_delivery list s.state)
    → new.taken ≡ old.taken + length (free_elements old.replica.held list) → SeatStandsFor new (delivered list s)
unfolding delivered
delivered-stands list old s new stands after counted = record {
  replica = after;
  rising = stands.rising;
  taken = counted ∙ (λ i. stands.taken i + length (free_elements (stands.replica.held i) list))
      ∙ sym (length-append s.taken (free_elements s.state.held list));
}

pub holding-stands : (old : KeptSeat) (s : Seat) (replica : Kept) (ids : List (List ℕ)) → SeatStandsFor old s
    → replica ≡ record old.replica { held = replica.held } → replica.held ≡ ids → AreStrictlySorted replica.held
    → SeatStandsFor (record { replica = replica; taken = old.taken }) (holding ids s)
holding-stands old s replica ids stands is same rising = record {
  replica = record {
    stored = ap (λ (r : Kept). r.stored) is ∙ stands.replica.stored;
    snapshot = ap (λ (r : Kept). r.snapshot) is ∙ stands.replica.snapshot;
    undo = subst (λ (r : Kept). StackStandsFor r.stacks.undo s.state.undo) (sym is) stands.replica.undo;
    redo = subst (λ (r : Kept). StackStandsFor r.stacks.redo s.state.redo) (sym is) stands.replica.redo;
    held = same;
  };
  rising = subst AreStrictlySorted same rising;
  taken = stands.taken;
}
