-- There are as many values left as items, and what is made of these, behind the changed items, is what is made of all.
use Rattle.std.proofs.Common.{◌≡◌, ◌+◌, ◌++◌, length, map, take, drop}
use Rattle.std.specs.List.{zip}
use Rattle.std.specs.Vec.Iter.{into_iter_items}
use Rattle.board_base.proofs.each.change_each.Given as goal

abbrev pub invariant-loop-item : goal.invariant-loop-item
invariant-loop-item g l =
    (length (into_iter_items l.values) + l.item-index ≡ length l.item-items)
    × ((made : g.row.A.Denot → g.row.B.Denot → g.row.A.Denot)
    → ((before : _) (value : _) (after : _) → goal.F-post g l.change before value _ after
    → after.now ≡ made before.now value)
    → map (λ p. made p.0 p.1) (zip l.initial.item-items (into_iter_items l.initial.values))
    ≡ take l.item-index l.item-items ++ map (λ p. made p.0 p.1)
    (zip (drop l.item-index l.item-items) (into_iter_items l.values)))
