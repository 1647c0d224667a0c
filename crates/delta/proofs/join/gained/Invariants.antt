-- The items gained so far are those of the first ones, each once.
use Rattle.std.proofs.Common.{◌≡◌, filter, take}
use Rattle.json_text.specs.FirstOccurrences.{first_occurrences}
use Rattle.delta.specs.Joined.{is_gained}
use Rattle.delta.proofs.join.gained.Given as goal

abbrev pub invariant-loop-item : goal.invariant-loop-item
invariant-loop-item g l = l.items.items
    ≡ first_occurrences g.T.Item.same (filter (is_gained g.T.Item.same l.before l.now) (take l.item-index l.item-items))
