-- the items so far are put
use Rattle.std.proofs.Common.{◌≡◌, ◌++◌, List}
use Rattle.library.specs.Best.{AreBest}
use Rattle.library.specs.declared.item.Item.{Item}
use Rattle.commands.proofs.taking.put_all.Given as goal

abbrev pub invariant-loop-item : goal.invariant-loop-item
invariant-loop-item l = record {
  best : (others : List Item) → AreBest others l.fn.shelf → AreBest (others ++ l.yielded) l.shelf;
  parts : l.fn.items ≡ l.yielded ++ l.item-iterator.rest.items;
}
