-- The member has its place behind those of lesser names.
use Rattle.std.proofs.Common.{sym, ◌∙◌}
use Rattle.effects.proofs.SettingLaws.{with_value-set, with_value-insert}
use Rattle.effects.proofs.setting.put_value.Goals as goal

pub returns-then-is_named_at : goal.returns-then-is_named_at
returns-then-is_named_at c =
    let ms = c.args.members.now.items in
    rw (c.count_below-place.ensures.count, c.in_ok-name.ensures)
    (with_value-set c.args.name.now c.args.value ms
    (rw (c.count_below-place.ensures.count, c.in_ok-name.ensures) at (sym c.is_named_at.ensures
    ∙ c.if-is_named_at.true)))

pub returns-in_ok-insert : goal.returns-in_ok-insert
returns-in_ok-insert c =
    let ms = c.args.members.now.items in
    c.in_ok-insert.ensures.items
    ∙ rw (c.count_below-place.ensures.count, c.in_ok-name.ensures)
    (with_value-insert c.args.name.now c.args.value ms
    (rw (c.count_below-place.ensures.count, c.in_ok-name.ensures) at (sym c.is_named_at.ensures
    ∙ c.if-is_named_at.false)))
