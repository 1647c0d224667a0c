-- The items kept so far are those of the first ones that stay.
use Rattle.std.proofs.Common.{◌≡◌, filter, take}
use Rattle.delta.specs.Joined.{stays}
use Rattle.delta.proofs.join.kept.Given as goal

abbrev pub invariant-loop-item : goal.invariant-loop-item
invariant-loop-item g l = l.items.items ≡ filter (stays g.T.Item.same l.before l.after) (take l.item-index l.item-items)
