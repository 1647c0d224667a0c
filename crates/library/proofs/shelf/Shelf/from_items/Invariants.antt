-- the best of the items so far are kept
use Rattle.std.proofs.Common.{◌≡◌, ◌++◌}
use Rattle.library.specs.Best.{AreBest}
use Rattle.library.proofs.shelf.Shelf.from_items.Given as goal

abbrev pub invariant-loop-item : goal.invariant-loop-item
invariant-loop-item l = record {
  best : AreBest l.yielded l.shelf;
  parts : l.fn.items ≡ l.yielded ++ l.item-iterator.rest.items;
}
