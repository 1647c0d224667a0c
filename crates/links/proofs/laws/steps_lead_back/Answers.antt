use Rattle.links.proofs.Near.{within-both}
use Rattle.links.proofs.laws.steps_lead_back.Goals as goal

pub returns : goal.returns
returns c = within-both
