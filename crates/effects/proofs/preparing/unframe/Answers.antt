use Rattle.std.proofs.Common.{None}
use Rattle.effects.proofs.PreparingLaws.{changed-among}
use Rattle.effects.proofs.preparing.unframe.Goals as goal

pub returns : goal.returns
returns c = λ stored view. record {
  exact = λ e _ _. changed-among c.in_ok-ids.ids c.args.ids.now e (record e { frame = None }) c.in_ok-ids.ensures;
  sound = tt;
  live = tt;
}
