-- What a plan of a step says once it is put in place.
use Rattle.std.proofs.Common.{◌≡◌, List, refl, sym, subst}
use Rattle.elem.specs.declared.stamp.Stamp.{Stamp}
use Rattle.elem.specs.ElementValue.{ElementValue}
use Rattle.history.specs.declared.planned.Direction.{Direction}
use Rattle.history.specs.declared.step.Step.{Step}
use Rattle.history.specs.declared.step.Step.TheVariants.{Done, Nothing}
use Rattle.history.specs.Stacks.{Stacks, HasTakenBack, AreUnseen, noted, other, put_step, side}
use Rattle.replica.specs.Boards.{Told, StacksComeBy, IsPlannedStep}
use Rattle.replica.specs.inner.Boards.{GivesTaken, HasPutStep, HasTurned}
use Rattle.replica.specs.declared.planned.PlannedStep.{PlannedStep}
use Rattle.replica.proofs.TurnLaws.{given-taken}

pub turn-comes : (direction : Direction) (stored : List ElementValue) (stamp : Stamp) (old new : Stacks) (step : Step)
    → ((given : List ElementValue) → step ≡ Done given → HasTakenBack direction stored stamp given old new)
    → (step ≡ Nothing → AreUnseen stored (side direction old)) → (step ≡ Nothing → new ≡ old)
    → StacksComeBy direction stored stamp step old new
turn-comes direction stored stamp old new (Done given) done unseen kept = done given refl
turn-comes direction stored stamp old new Nothing done unseen kept = (unseen refl, kept refl)

-- what is planned becomes stored
pub planned-gives : (direction : Direction) (stored : List ElementValue) (stamp : Stamp) (step : Step)
    (old new : Stacks) → StacksComeBy direction stored stamp step old new → GivesTaken stored step
planned-gives direction stored stamp (Done given) old new comes =
    given-taken stored given stamp.time stamp.nonce (side direction old) (side (other direction) old)
    (side direction new)
    (side (other direction) new) comes
planned-gives direction stored stamp Nothing old new comes = tt

-- a step that was planned and put in place is one step of undo or redo
pub turned-from : (old new : Told) (plan : PlannedStep) → IsPlannedStep old.stored old.snapshot old.stacks plan
    → HasPutStep old plan.step (put_step plan.history old.stacks) new
    → HasTurned plan.direction old plan.stamp plan.step new
turned-from old new plan p put = record {
  entry = p.entry;
  stands = p.stands;
  comes = subst (StacksComeBy plan.direction old.stored plan.stamp plan.step (noted p.entry old.stacks))
      (sym put.stacks) p.comes;
  put =
      record { elements = put.elements; stored = put.stored; view = put.view; snapshot = put.snapshot; stacks = refl };
}
