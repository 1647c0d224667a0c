use Rattle.std.proofs.Common.{◌≡◌, filter, take}
use Rattle.links.specs.Arrows.{is_true_entry}
use Rattle.links.specs.Entries.{first_entries}
use Rattle.links.specs.inner.Tables.{AreSeen}
use Rattle.links.proofs.names.Names.add_own.Given as goal

abbrev pub invariant-loop-entry : goal.invariant-loop-entry
invariant-loop-entry l =
    (l.listing.entries.items ≡ first_entries (filter (is_true_entry l.self l.e) (take l.entry-index l.entry-items)))
    × AreSeen l.listing.entries.items l.listing.arrows l.listing.texts
