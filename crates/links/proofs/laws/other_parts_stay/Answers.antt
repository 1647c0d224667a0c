-- Each element changes in these members alone.
use Rattle.links.proofs.SettledLaws.{unlinked-links}
use Rattle.links.proofs.laws.other_parts_stay.Goals as goal

pub returns : goal.returns
returns c = unlinked-links
