use Rattle.std.proofs.Common.{Some, ap, ◌∙◌, if◌then◌else◌}
use Rattle.elem_store.specs.Updates.{is_among}
use Rattle.effects.proofs.PreparingLaws.{changed-among}
use Rattle.effects.proofs.preparing.frame_in.Goals as goal

pub returns : goal.returns
returns c = λ stored view. record {
  exact = λ e _ _. changed-among c.in_ok-ids.ids c.args.ids.now e (record e { frame = Some c.in_ok-try_clone.field-0 })
      c.in_ok-ids.ensures
      ∙ ap (λ frame. if is_among c.args.ids.now e.id then record e { frame = Some frame } else e)
      c.in_ok-try_clone.ensures;
  sound = tt;
  live = tt;
}
