-- A part without changes is one.
use Rattle.delta.proofs.ChangeLaws.{IsPart-none}
use Rattle.delta.proofs.inverting.turn.Goals as goal

pub invariant_of-nothing : goal.invariant_of-nothing
invariant_of-nothing c = IsPart-none _ c.new.ensures
