-- What was copied so far is the first items.
use Rattle.std.proofs.Common.{◌≡◌, take}
use Rattle.board_base.proofs.list.List.try_clone_with.Given as goal

abbrev pub invariant-loop-item : goal.invariant-loop-item
invariant-loop-item g l = l.items.items ≡ take l.item-index l.self
