-- What can be undone and redone. This project's own, after Excalidraw's history.
-- Only this crate's own bodies and proofs need it.
use Rattle.std.specs.Prelude.{◌≡◌, List, length}
use Rattle.elem.specs.declared.stamp.Stamp.{Stamp}
use Rattle.elem.specs.ElementValue.{ElementValue}
use Rattle.delta.specs.Delta.{Delta}
use Rattle.history.specs.declared.planned.Plan.{Plan}
use Rattle.history.specs.Steps.{IsStep}
use Rattle.history.specs.Stacks.{IsTopmostSeen}

-- what is planned for a stack: nothing where no entry is seen, or the step from the topmost one
pub record IsPlanned (store : List ElementValue) (stamp : Stamp) (stack : List (List Delta))
    (plan : Plan) : Type 0 where
  pub below : List (List Delta)
  pub parts : List Delta
  pub above : List (List Delta)
  pub topmost : IsTopmostSeen store stack below parts above
  pub count : plan.passed ≡ length above
  pub step : IsStep parts store stamp.time stamp.nonce plan.given plan.made
