-- The parts stand for the pairs of the first stored elements.
use Rattle.std.proofs.Common.{take}
use Rattle.delta.specs.Pairs.{EntryStandsFor}
use Rattle.snapshot.specs.Pending.{pairs_since}
use Rattle.snapshot.proofs.pending.parts_since.Given as goal

abbrev pub invariant-loop-i : goal.invariant-loop-i
invariant-loop-i l = EntryStandsFor l.parts.items (pairs_since l.elements.items (take l.i l.store.elements))
