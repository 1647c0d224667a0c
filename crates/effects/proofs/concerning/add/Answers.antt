use Rattle.effects.proofs.ConcerningLaws.{added-one}
use Rattle.effects.proofs.concerning.add.Goals as goal

pub returns : goal.returns
returns c = added-one c.args.ids.now c.insert.new.self c.args.id.now c.in_ok-try_clone.field-0 c.in_ok-try_clone.ensures
    c.in_ok-insert.ensures.updates
