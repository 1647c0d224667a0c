-- What a board is after undo or redo: it is sound, and stands for what the same makes of a state.
use Rattle.std.proofs.Common.{◌≡◌, ℕ, true, List, Some, None, Ok, Err, Contains, refl, sym, ◌∙◌, subst}
use Rattle.std.proofs.lemmas.List.Elements.{All-weaker, All-contains_itself}
use Rattle.elem.specs.declared.stamp.Stamp.{Stamp}
use Rattle.elem.specs.ElementValue.{ElementValue}
use Rattle.elem.specs.Said.{AreElements}
use Rattle.elem_store.specs.Updates.{is_taken}
use Rattle.delta.specs.Delta.{Delta}
use Rattle.delta.specs.Pairs.{EntryStandsFor, Pair}
use Rattle.history.specs.Pairs.{StackStandsFor}
use Rattle.view.specs.Shown.{live_elements}
use Rattle.history.specs.declared.planned.Direction.{Direction}
use Rattle.history.specs.declared.planned.Direction.TheVariants.{Undo, Redo}
use Rattle.history.specs.declared.step.Step.{Step}
use Rattle.history.specs.declared.step.Step.TheVariants.{Done, Nothing}
use Rattle.history.specs.Stacks.{Stacks, HaveStoredIds, HasStepped, chosen, noted, other, side}
use Rattle.history.proofs.CallerLemmas.{ids-stored, step-nothing, step-full, step-done, step-taken}
use Rattle.undo_model.specs.Carrying.{taken_all}
use Rattle.undo_model.specs.Differing.{pending}
use Rattle.undo_model.specs.Steps.{Turn, step}
use Rattle.replica.specs.Boards.{Told, ToldStandsFor, IsSound, StacksComeBy}
use Rattle.replica.specs.inner.Boards.{BecomeStored, HasTurned, HasStopped}
use Rattle.replica.specs.State as state
use Rattle.replica.specs.State.{State}
use Rattle.replica.proofs.BoardLaws.{told-is, captured_told, captured-stands, captured-sound, stored-rise, stored-elements}
use Rattle.replica.proofs.StoredLaws.{stack-kept}

-- what a step gives becomes stored
pub given-taken : (stored given : List ElementValue) (time nonce : ℕ) (from to below grown : List (List Delta))
    → HasStepped stored time nonce given from to below grown → BecomeStored stored given
given-taken stored given time nonce from to below grown stepped = record {
  rise = stepped.step.gives.ordered;
  taken =
      All-weaker (Contains given) (λ e. is_taken stored e ≡ true)
      (λ e c. (step-taken stored given time nonce from to below grown stepped e c).1) given (All-contains_itself given);
}

module _ (old : Told) (sound : IsSound old) (entry : List Delta)
    (stands : EntryStandsFor entry (pending old.snapshot old.stored)) where
  -- the board once what is pending was captured
  noted-sound : IsSound (captured_told entry old)
  noted-sound =
      captured-sound old entry sound.view sound.stored_rise sound.stored_elements sound.undo_ids sound.redo_ids stands

  noted-stands : (s : State) → ToldStandsFor old s → ToldStandsFor (captured_told entry old) (state.captured s)
  noted-stands s st =
      captured-stands old s entry sound.snapshot_elements sound.stored_elements sound.stored_rise stands st

  -- the board after a step
  abbrev stepped_told : List ElementValue → Stacks → Told
  stepped_told given stacks = record {
    stored = taken_all given old.stored;
    view = live_elements (taken_all given old.stored);
    snapshot = taken_all given old.stored;
    stacks = stacks;
  }

  stepped-sound : (given : List ElementValue) (stacks : Stacks) → AreElements given
      → HaveStoredIds old.stored stacks.undo → HaveStoredIds old.stored stacks.redo
      → IsSound (stepped_told given stacks)
  stepped-sound given stacks are undo redo = record {
    view = refl;
    stored_rise = stored-rise old given sound are;
    snapshot_rise = stored-rise old given sound are;
    stored_elements = stored-elements old given sound are;
    snapshot_elements = stored-elements old given sound are;
    known = λ id some. some;
    undo_ids = stack-kept old.stored given stacks.undo sound.stored_rise undo;
    redo_ids = stack-kept old.stored given stacks.redo sound.stored_rise redo;
  }

-- ---- by which side
side-stands : (direction : Direction) (t : Told) (s : State) → ToldStandsFor t s
    → StackStandsFor (side direction t.stacks) (state.entries direction s)
side-stands Undo t s st = st.undo
side-stands Redo t s st = st.redo

both-stand : (direction : Direction) (stacks : Stacks) (from to : List (List Pair))
    → StackStandsFor (side direction stacks) from → StackStandsFor (side (other direction) stacks) to
    → StackStandsFor stacks.undo (chosen direction from to) × StackStandsFor stacks.redo (chosen direction to from)
both-stand Undo stacks from to own others = (own, others)
both-stand Redo stacks from to own others = (others, own)

pub side-ids : (direction : Direction) (stored : List ElementValue) (stacks : Stacks) → HaveStoredIds stored stacks.undo
    → HaveStoredIds stored stacks.redo → HaveStoredIds stored (side direction stacks)
side-ids Undo stored stacks undo redo = undo
side-ids Redo stored stacks undo redo = redo

both-ids : (direction : Direction) (stored : List ElementValue) (stacks : Stacks)
    → HaveStoredIds stored (side direction stacks) → HaveStoredIds stored (side (other direction) stacks)
    → HaveStoredIds stored stacks.undo × HaveStoredIds stored stacks.redo
both-ids Undo stored stacks own others = (own, others)
both-ids Redo stored stacks own others = (others, own)

-- ---- a step of undo or redo
module _ (direction : Direction) (old : Told) (stamp : Stamp) (sound : IsSound old) where
  module _ (entry : List Delta) (stands : EntryStandsFor entry (pending old.snapshot old.stored)) where
    abbrev now : Stacks
    now = noted entry old.stacks

    -- the turn that is found
    turn-of : (given : List ElementValue) (new : Stacks)
        → StacksComeBy direction old.stored stamp (Done given) now new → (s : State) → ToldStandsFor old s
        → (turn : Turn) × (state.turn_on direction stamp.time stamp.nonce s ≡ Some (Ok turn)) × (turn.given ≡ given)
        × StackStandsFor (side direction new) turn.from × StackStandsFor (side (other direction) new) turn.to
    turn-of given new comes s st =
        let was = noted-stands old sound entry stands s st in
        let own = state.entries direction (state.captured s) in
        let others = state.entries (other direction) (state.captured s) in
        let t = step-done old.stored sound.stored_elements stamp.time stamp.nonce stamp.early stamp.small given
        (side direction now)
        (side (other direction) now) (side direction new) (side (other direction) new) own
        (side-stands direction (captured_told entry old) (state.captured s) was) comes others
        (side-stands (other direction) (captured_told entry old) (state.captured s) was) in
        (t.0, subst (λ es. step es stamp.time stamp.nonce own others ≡ Some (Ok t.0)) st.stored t.1, t.2, t.3, t.4)

    none-of : (new : Stacks) → StacksComeBy direction old.stored stamp Nothing now new → (s : State)
        → ToldStandsFor old s → state.turn_on direction stamp.time stamp.nonce s ≡ None
    none-of new comes s st =
        let was = noted-stands old sound entry stands s st in
        let own = state.entries direction (state.captured s) in
        let others = state.entries (other direction) (state.captured s) in
        subst (λ es. step es stamp.time stamp.nonce own others ≡ None) st.stored
        (step-nothing old.stored sound.stored_elements stamp.time stamp.nonce (side direction now) own others
        (side-stands direction (captured_told entry old) (state.captured s) was) comes.0)

    -- what a plan answers
    pub plan-answers : (answer : Step) (new : Stacks) → StacksComeBy direction old.stored stamp answer now new
        → (s : State) → ToldStandsFor old s
        → state.IsStepAnswer answer (state.turn_on direction stamp.time stamp.nonce s)
    plan-answers (Done given) new comes s st = let t = turn-of given new comes s st in (t.0, t.1, sym t.2)
    plan-answers Nothing new comes s st = none-of new comes s st

  -- what the board is and stands for once it is put
  pub turned-sound : (answer : Step) (new : Told) → HasTurned direction old stamp answer new → IsSound new
  turned-sound (Done given) new h =
      let was = noted-sound old sound h.entry h.stands in
      let stacks = noted h.entry old.stacks in
      let ids =
      ids-stored old.stored given stamp.time stamp.nonce (side direction stacks) (side (other direction) stacks)
      (side direction new.stacks) (side (other direction) new.stacks) h.comes
      (side-ids direction old.stored stacks was.undo_ids was.redo_ids)
      (side-ids (other direction) old.stored stacks was.undo_ids was.redo_ids) in
      let both = both-ids direction old.stored new.stacks ids.0 ids.1 in
      let same = sym (told-is new (taken_all given old.stored) (live_elements (taken_all given old.stored))
      (taken_all given old.stored) new.stacks h.put.stored h.put.view h.put.snapshot refl) in
      subst IsSound same (stepped-sound old sound h.entry h.stands given new.stacks h.put.elements both.0 both.1)
  turned-sound Nothing new h =
      let same = sym (told-is new old.stored old.view old.stored (noted h.entry old.stacks) h.put.stored (h.put.view
      ∙ sym sound.view) h.put.snapshot h.comes.1) in
      subst IsSound same (noted-sound old sound h.entry h.stands)

  pub turned-stands : (answer : Step) (new : Told) → HasTurned direction old stamp answer new → (s : State)
      → ToldStandsFor old s → ToldStandsFor new (state.after_turn direction stamp.time stamp.nonce s)
  turned-stands (Done given) new h s st =
      let t = turn-of h.entry h.stands given new.stacks h.comes s st in
      let is : taken_all given old.stored ≡ taken_all t.0.given s.stored = λ i. taken_all (sym t.2 i) (st.stored i) in
      let stacks = both-stand direction new.stacks t.0.from t.0.to t.3 t.4 in
      subst (λ o. ToldStandsFor new (state.after_turn_of direction o s)) (sym t.1)
      (record { stored = h.put.stored ∙ is; snapshot = h.put.snapshot ∙ is; undo = stacks.0; redo = stacks.1 })
  turned-stands Nothing new h s st =
      let same = sym (told-is new old.stored old.view old.stored (noted h.entry old.stacks) h.put.stored (h.put.view
      ∙ sym sound.view) h.put.snapshot h.comes.1) in
      subst (λ o. ToldStandsFor new (state.after_turn_of direction o s))
      (sym (none-of h.entry h.stands new.stacks h.comes s st))
      (subst (λ (u : Told). ToldStandsFor u (state.captured s)) same (noted-stands old sound h.entry h.stands s st))

  pub turn-full : (id : List ℕ) → HasStopped direction old id → (s : State) → ToldStandsFor old s
      → state.turn_on direction stamp.time stamp.nonce s ≡ Some (Err id)
  turn-full id h s st =
      let was = noted-stands old sound h.entry h.stands s st in
      let stacks = noted h.entry old.stacks in
      let own = state.entries direction (state.captured s) in
      let others = state.entries (other direction) (state.captured s) in
      subst (λ es. step es stamp.time stamp.nonce own others ≡ Some (Err id)) st.stored
      (step-full old.stored sound.stored_elements stamp.time stamp.nonce (side direction stacks)
      (side (other direction) stacks) own
      others id (side-stands direction (captured_told h.entry old) (state.captured s) was)
      (side-stands (other direction) (captured_told h.entry old) (state.captured s) was) h.stops)
