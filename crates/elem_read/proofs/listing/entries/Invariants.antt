use Rattle.std.proofs.Common.{take}
use Rattle.elem.specs.Forms.{AreListingEntries}
use Rattle.elem_read.proofs.listing.entries.Given as goal

abbrev pub invariant-loop-item : goal.invariant-loop-item
invariant-loop-item l = AreListingEntries (take l.item-index l.items) l.entries.items
