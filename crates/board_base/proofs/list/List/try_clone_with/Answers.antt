-- The copy of this item is equal to it.
use Rattle.std.proofs.Common.{◌≡◌, refl, arith}
use Rattle.std.proofs.lemmas.Grind.{common_steps}
use Rattle.board_base.proofs.list.List.try_clone_with.Goals as goal

pub loop-item-preserved : goal.loop-item-preserved
loop-item-preserved g c =
    let equal : c.in_ok-clone.field-0 ≡ c.item-item.result =
    c.requires.equal _ _ (record { shown = _; shows = refl; says = record { met = c.in_ok-clone.ensures } }) in
    let pushed = c.in_ok-push.ensures.items in
    grind (arith, common_steps)
