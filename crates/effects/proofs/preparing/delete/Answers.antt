use Rattle.effects.proofs.PreparingLaws.{deleted-among, deleted-live}
use Rattle.effects.proofs.preparing.delete.Goals as goal

pub returns : goal.returns
returns c = λ view. record {
  exact = λ e _ _. deleted-among c.in_ok-ids.ids c.args.ids.now e c.in_ok-ids.ensures;
  sound = tt;
  live = deleted-live c.in_ok-ids.ids c.args.ids.now c.args.store.now.elements c.in_ok-ids.ensures c.requires;
}
