-- The first parts are inverted.
use Rattle.std.proofs.Common.{◌≡◌}
use Rattle.delta.specs.Parts.{inverse}
use Rattle.delta.proofs.ChangeLaws.{partly}
use Rattle.delta.proofs.inverting.invert_entry.Given as goal

abbrev pub invariant-loop-part : goal.invariant-loop-part
invariant-loop-part l = l.part-items ≡ partly inverse l.part-index l.initial.part-items
