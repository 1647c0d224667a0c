use Rattle.std.proofs.Common.{ap, ◌∙◌, if◌then◌else◌}
use Rattle.effects.specs.Effects.{with_group}
use Rattle.elem_store.specs.Updates.{is_among}
use Rattle.effects.proofs.PreparingLaws.{changed-among}
use Rattle.effects.proofs.preparing.group_in.Goals as goal

pub returns : goal.returns
returns c = λ stored view. record {
  exact = λ e _ _. changed-among c.in_ok-ids.ids c.args.ids.now e
      (record e { groups = with_group c.in_ok-group.group e.groups }) c.in_ok-ids.ensures
      ∙ ap (λ group. if is_among c.args.ids.now e.id then record e { groups = with_group group e.groups } else e)
      c.in_ok-group.ensures;
  sound = tt;
  live = tt;
}
