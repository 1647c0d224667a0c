-- None of the first members has the name.
use Rattle.std.proofs.Common.{◌≡◌, drop}
use Rattle.delta.specs.Headers.{value_named}
use Rattle.delta.proofs.differing.rest_raw.Given as goal

abbrev pub invariant-loop-at : goal.invariant-loop-at
invariant-loop-at l = value_named l.name (drop l.at l.members) ≡ value_named l.name l.members
