use Rattle.effects.proofs.FindingLaws.{first-absent, first-found-at}
use Rattle.effects.proofs.finding.shown_place.Goals as goal

pub returns-in-None-clause-found : goal.returns-in-None-clause-found
returns-in-None-clause-found c =
    first-found-at c.args.lookup.now.shown.now c.args.id.now c.first_place.result c.first_place.ensures

pub returns-in-None-clause-absent : goal.returns-in-None-clause-absent
returns-in-None-clause-absent c =
    first-absent c.args.lookup.now.shown.now c.args.id.now c.first_place.result c.first_place.ensures
