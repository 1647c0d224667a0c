use Rattle.effects.proofs.PreparingLaws.{settled-for}
use Rattle.effects.proofs.preparing.settle_for.Goals as goal

pub returns-clause-exact : goal.returns-clause-exact
returns-clause-exact c =
    settled-for c.args.lookup.now c.requires c.in_ok-keys.keys c.args.originals.now c.in_ok-keys.ensures
