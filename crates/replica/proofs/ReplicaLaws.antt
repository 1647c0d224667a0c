-- A replica stands for what its board stands for, with the ids that are held.
use Rattle.std.proofs.Common.{◌≡◌, ℕ, List, [], ◌∷◌, Option, Some, None, Result, Ok, Err, IfOk, IfErr, OnOk, OnErr, refl, sym, ap, ◌∙◌, subst}
use Rattle.board_base.specs.declared.stop.Stop.{Stop}
use Rattle.board_base.specs.declared.stop.Stop.TheVariants.{Fault, Memory}
use Rattle.elem.specs.declared.stamp.Stamp.{Stamp}
use Rattle.elem.specs.ElementValue.{ElementValue}
use Rattle.delta.specs.Pairs.{Pair}
use Rattle.delta.specs.declared.stamping.VersionFull.{VersionFull}
use Rattle.reconcile.specs.Ids.{free_elements}
use Rattle.view.specs.Shown.{live_elements, shown}
use Rattle.effects.specs.Changed.{outcome, OnFault}
use Rattle.board_commands.specs.declared.command.Capture.{Capture}
use Rattle.board_commands.specs.declared.command.Capture.TheVariants.{Now, Later, Never}
use Rattle.board_commands.specs.declared.command.Command.{Command}
use Rattle.effects.specs.declared.refusal.Refusal.{Refusal}
use Rattle.history.specs.Stacks.{OnFull, put_step}
use Rattle.history.specs.declared.planned.Direction.{Direction}
use Rattle.undo_model.specs.Differing.{pending}
use Rattle.undo_model.specs.Steps.{Turn}
use Rattle.replica.specs.Boards.{Told, ToldStandsFor, IsTold, IsPlanOf, IsPlannedStep}
use Rattle.replica.specs.inner.Boards.{HasCarriedAll, HasPutStep, HasStopped, HasStoredGiven, HasTurned}
use Rattle.replica.specs.declared.planned.PlannedStep.{PlannedStep}
use Rattle.replica.specs.Standing.{Kept, ReplicaStandsFor}
use Rattle.replica.specs.State as state
use Rattle.replica.specs.State.{State}
use Rattle.replica.proofs.BoardLaws.{Becomes-told, carried-becomes, given-becomes}
use Rattle.replica.proofs.CallLaws.{turned-from}
use Rattle.replica.proofs.TurnLaws.{plan-answers, turn-full, turned-sound, turned-stands}

-- a board with the ids that are held
abbrev pub kept_of : Told → List (List ℕ) → Kept
kept_of t held = record { stored = t.stored; snapshot = t.snapshot; stacks = t.stacks; held = held }

pub to-told : (t : Told) (held : List (List ℕ)) (s : State) → ReplicaStandsFor (kept_of t held) s → ToldStandsFor t s
to-told t held s st = record { stored = st.stored; snapshot = st.snapshot; undo = st.undo; redo = st.redo }

pub from-told : (t : Told) (held : List (List ℕ)) (s : State) → ToldStandsFor t s → held ≡ s.held
    → ReplicaStandsFor (kept_of t held) s
from-told t held s st same =
    record { stored = st.stored; snapshot = st.snapshot; undo = st.undo; redo = st.redo; held = same }

-- what a call keeps of the held ids
noted-held : (pairs : List Pair) (s : State) → (state.noted pairs s).held ≡ s.held
noted-held [] s = refl
noted-held (pair ∷ pairs) s = refl

pub captured-held : (s : State) → (state.captured s).held ≡ s.held
captured-held s = noted-held (pending s.snapshot s.stored) s

pub given-held : (capture : Capture) (given : List ElementValue) (s : State)
    → (state.after_given capture given s).held ≡ s.held
given-held Now given s = captured-held (state.stored_with given s)
given-held Later given s = refl
given-held Never given s = refl

pub turn-held-of : (direction : Direction) (o : Option (Result Turn (List ℕ))) (s : State)
    → (state.after_turn_of direction o s).held ≡ s.held
turn-held-of direction None s = captured-held s
turn-held-of direction (Some (Err id)) s = refl
turn-held-of direction (Some (Ok turn)) s = refl

turn-held : (direction : Direction) (time nonce : ℕ) (s : State) → (state.after_turn direction time nonce s).held
    ≡ s.held
turn-held direction time nonce s = turn-held-of direction (state.turn_on direction time nonce s) s

-- what a replica stands for after a call that keeps the held ids
pub after-stands : (old new : Told) (held : List (List ℕ)) (after : State → State)
    → ((s : State) → ToldStandsFor old s → ToldStandsFor new (after s)) → ((s : State) → (after s).held ≡ s.held)
    → (s : State) → ReplicaStandsFor (kept_of old held) s → ReplicaStandsFor (kept_of new held) (after s)
after-stands old new held after stands same s st =
    from-told new held (after s) (stands s (to-told old held s st)) (st.held ∙ sym (same s))

-- what contracts see of a board and held ids is this value
module _ (old new : Told) (held : List (List ℕ)) (replica : Kept) (is : kept_of old held ≡ replica)
    (told : IsTold old)
  where
    own-stands : (s : State) → ReplicaStandsFor replica s → ReplicaStandsFor (kept_of old held) s
    own-stands s st = subst (λ k. ReplicaStandsFor k s) (sym is) st

    -- ---- a change
    pub outcome-seen : (command : Command) (time nonce : ℕ) (o : Result (List ElementValue) Refusal)
        → outcome old.stored (shown old.view) command time nonce ≡ o
        → outcome replica.stored (shown (live_elements replica.stored)) command time nonce ≡ o
    outcome-seen command time nonce o h =
        subst (λ (k : Kept). outcome k.stored (shown (live_elements k.stored)) command time nonce ≡ o) is
        (subst (λ es. outcome old.stored (shown es) command time nonce ≡ o) told.0.view h)

    pub refused-seen : (command : Command) (time nonce : ℕ) (stop : Stop Refusal)
        → OnFault stop (λ refusal. outcome old.stored (shown old.view) command time nonce ≡ Err refusal)
        → OnFault stop (λ refusal. outcome replica.stored (shown (live_elements replica.stored)) command time nonce
        ≡ Err refusal)
    refused-seen command time nonce (Fault refusal) h = outcome-seen command time nonce (Err refusal) h
    refused-seen command time nonce Memory h = tt

    change-told : (capture : Capture) (given : List ElementValue) → HasStoredGiven capture old given new → IsTold new
    change-told capture given h =
        Becomes-told old new (state.after_given capture given) told (given-becomes capture old given new told.0 h)

    given-stands : (capture : Capture) (given : List ElementValue) → HasStoredGiven capture old given new
        → (s : State)
        → ReplicaStandsFor replica s → ReplicaStandsFor (kept_of new held) (state.after_given capture given s)
    given-stands capture given h s st =
        after-stands old new held (state.after_given capture given)
        (given-becomes capture old given new told.0 h).stands
        (given-held capture given) s (own-stands s st)

    pub given-told : {A B : Type 0} (r : Result A B) (capture : Capture) (given : List ElementValue)
        → OnOk r (HasStoredGiven capture old given new) → OnErr r (new ≡ old) → IsTold new
    given-told (Ok done) capture given ok err = change-told capture given ok
    given-told (Err stop) capture given ok err = subst IsTold (sym err) told

    pub given-after : {A B : Type 0} (r : Result A B) (capture : Capture) (given : List ElementValue)
        → OnOk r (HasStoredGiven capture old given new)
        → OnOk r ((s : State) → ReplicaStandsFor replica s
        → ReplicaStandsFor (kept_of new held) (state.after_given capture given s))
    given-after (Ok done) capture given ok = given-stands capture given ok
    given-after (Err stop) capture given ok = tt

    -- ---- a delivery
    pub delivered-told : (free : List ElementValue) → HasCarriedAll old free new → IsTold new
    delivered-told free h =
        Becomes-told old new (state.carried_with free) told (carried-becomes old free new told.0 h)

    pub delivered-stands : (list free : List ElementValue) → free ≡ free_elements held list
        → HasCarriedAll old free new
        → (s : State) → ReplicaStandsFor replica s
        → ReplicaStandsFor (kept_of new held) (state.after_delivery list s)
    delivered-stands list free same h s st =
        let own = own-stands s st in
        let after =
        after-stands old new held (state.carried_with free) (carried-becomes old free new told.0 h).stands
        (λ s. refl) s own in
        subst (λ es. ReplicaStandsFor (kept_of new held) (state.carried_with es s)) (same
        ∙ ap (λ ids. free_elements ids list) own.held) after

    -- ---- undo and redo
    pub planned-seen : (r : Result PlannedStep (Stop VersionFull))
        → IfOk r (IsPlannedStep old.stored old.snapshot old.stacks)
        → IfOk r (IsPlannedStep replica.stored replica.snapshot replica.stacks)
    planned-seen r h = subst (λ (k : Kept). IfOk r (IsPlannedStep k.stored k.snapshot k.stacks)) is h

    pub planned-told : (plan : PlannedStep) → IsPlannedStep replica.stored replica.snapshot replica.stacks plan
        → IsPlannedStep old.stored old.snapshot old.stacks plan
    planned-told plan h = subst (λ (k : Kept). IsPlannedStep k.stored k.snapshot k.stacks plan) (sym is) h

    own-answers : (plan : PlannedStep) → IsPlannedStep old.stored old.snapshot old.stacks plan → (s : State)
        → ReplicaStandsFor replica s → state.IsStepAnswer plan.step
        (state.turn_on plan.direction plan.stamp.time plan.stamp.nonce s)
    own-answers plan h s st =
        plan-answers plan.direction old plan.stamp told.0 h.entry h.stands plan.step
        (put_step plan.history old.stacks) h.comes s (to-told old held s (own-stands s st))

    pub planned-answers : (direction : Direction) (stamp : Stamp) (r : Result PlannedStep (Stop VersionFull))
        → IfOk r (IsPlannedStep old.stored old.snapshot old.stacks) → IfOk r (IsPlanOf direction stamp)
        → IfOk r (λ plan. (s : State) → ReplicaStandsFor replica s
        → state.IsStepAnswer plan.step (state.turn_on direction stamp.time stamp.nonce s))
    planned-answers direction stamp (Ok plan) h call = λ (s : State) (st : ReplicaStandsFor replica s).
        subst (state.IsStepAnswer plan.step) (λ i. state.turn_on (call.of_direction i) (call.of_stamp i).time
        (call.of_stamp i).nonce s) (own-answers plan h s st)
    planned-answers direction stamp (Err stop) h call = tt

    full-stops : (direction : Direction) (stamp : Stamp) (stop : Stop VersionFull)
        → OnFull stop (HasStopped direction old)
        → OnFull stop (λ id. (s : State) → ReplicaStandsFor replica s
        → state.turn_on direction stamp.time stamp.nonce s ≡ Some (Err id))
    full-stops direction stamp (Fault full) h =
        λ s st. turn-full direction old stamp told.0 full.0 h s
        (to-told old held s (own-stands s st))
    full-stops direction stamp Memory h = tt

    pub plan-stops : (direction : Direction) (stamp : Stamp) (r : Result PlannedStep (Stop VersionFull))
        → IfErr r (λ stop. OnFull stop (HasStopped direction old))
        → IfErr r (λ stop. OnFull stop (λ id. (s : State) → ReplicaStandsFor replica s
        → state.turn_on direction stamp.time stamp.nonce s ≡ Some (Err id)))
    plan-stops direction stamp (Ok plan) full = tt
    plan-stops direction stamp (Err stop) full =
        full-stops direction stamp stop full

    -- a planned step that was put
    module _ (plan : PlannedStep) (h : IsPlannedStep old.stored old.snapshot old.stacks plan)
        (put : HasPutStep old plan.step (put_step plan.history old.stacks) new) where
      turned : HasTurned plan.direction old plan.stamp plan.step new
      turned = turned-from old new plan h put

      pub put-told : IsTold new
      put-told = (
        turned-sound plan.direction old plan.stamp told.0 plan.step new turned,
        (
          state.after_turn plan.direction plan.stamp.time plan.stamp.nonce told.1.0,
          turned-stands plan.direction old plan.stamp told.0 plan.step new turned told.1.0
              told.1.1,
        ),
      )

      pub put-stands : (s : State) → ReplicaStandsFor replica s
          → ReplicaStandsFor (kept_of new held) (state.after_turn plan.direction plan.stamp.time plan.stamp.nonce s)
      put-stands s st =
          after-stands old new held (state.after_turn plan.direction plan.stamp.time plan.stamp.nonce)
          (turned-stands plan.direction old plan.stamp told.0 plan.step new turned)
          (turn-held plan.direction plan.stamp.time plan.stamp.nonce) s (own-stands s st)
