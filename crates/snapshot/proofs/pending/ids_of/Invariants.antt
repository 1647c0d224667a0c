-- The ids of the first parts are listed.
use Rattle.std.proofs.Common.{◌≡◌, take}
use Rattle.delta.specs.Facts.{part_ids}
use Rattle.snapshot.proofs.pending.ids_of.Given as goal

abbrev pub invariant-loop-part : goal.invariant-loop-part
invariant-loop-part l = l.ids.items ≡ part_ids (take l.part-index l.part-items)
