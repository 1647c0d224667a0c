-- the texts of the items so far stand between commas
use Rattle.std.proofs.Common.{◌≡◌, ◌++◌, drop, map, take}
use Rattle.std.specs.List.{join_with_byte}
use Rattle.library.specs.inner.Filed.{items_in}
use Rattle.library.specs.Items.{item_text}
use Rattle.library.proofs.shelf.push_filed.Given as goal

abbrev pub invariant-loop-i : goal.invariant-loop-i
invariant-loop-i l = record {
  made : l.out.items ≡ l.initial.out.items
      ++ join_with_byte 44 (map item_text (take l.i-iterator.count (items_in l.items.entries)));
  left : l.i-iterator.iter ≡ drop l.i-iterator.count (items_in l.items.entries);
}
