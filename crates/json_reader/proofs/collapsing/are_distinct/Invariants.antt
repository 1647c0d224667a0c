use Rattle.json_reader.proofs.Placing.{AreSeen}
use Rattle.json_reader.proofs.collapsing.are_distinct.Given as goal

abbrev pub invariant-loop-i : goal.invariant-loop-i
invariant-loop-i l = AreSeen l.bytes l.places l.i l.seen
