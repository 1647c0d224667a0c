-- The parts stand for the pairs of the first of the new elements.
use Rattle.std.proofs.Common.{take}
use Rattle.delta.specs.Pairs.{EntryStandsFor}
use Rattle.snapshot.specs.Pending.{pairs_since}
use Rattle.snapshot.proofs.pending.parts_to.Given as goal

abbrev pub invariant-loop-shared : goal.invariant-loop-shared
invariant-loop-shared l = EntryStandsFor l.parts.items (pairs_since l.elements.items (take l.shared-index l.news.items))
