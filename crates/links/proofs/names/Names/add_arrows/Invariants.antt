use Rattle.std.proofs.Common.{◌≡◌, map, take}
use Rattle.elem.specs.ElementValue.{ElementValue}
use Rattle.links.specs.Entries.{arrow_entry}
use Rattle.links.specs.Tables.{row_element}
use Rattle.links.specs.inner.Tables.{with_entries, AreSeen}
use Rattle.links.proofs.names.Names.add_arrows.Given as goal

abbrev pub invariant-loop-row : goal.invariant-loop-row
invariant-loop-row l =
    (l.listing.entries.items ≡ with_entries l.initial.listing.entries.items
    (map (λ (e : ElementValue). arrow_entry e.id) (map row_element (take l.row-index l.row-items))))
    × AreSeen l.listing.entries.items l.listing.arrows l.listing.texts
