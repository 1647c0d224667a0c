-- The first changes are inverted.
use Rattle.std.proofs.Common.{◌≡◌}
use Rattle.delta.specs.Parts.{inverted}
use Rattle.delta.proofs.ChangeLaws.{partly}
use Rattle.delta.proofs.inverting.invert.Given as goal

abbrev pub invariant-loop-change : goal.invariant-loop-change
invariant-loop-change l = l.change-items ≡ partly inverted l.change-index l.initial.change-items
