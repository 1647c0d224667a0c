use Rattle.effects.proofs.PreparingLaws.{settled-view}
use Rattle.effects.proofs.preparing.settle.Goals as goal

pub returns : goal.returns
returns c = record {
  exact = settled-view c.args.lookup.now c.requires c.in_ok-keys.keys c.in_ok-keys.ensures;
  sound = tt;
  live = tt;
}
