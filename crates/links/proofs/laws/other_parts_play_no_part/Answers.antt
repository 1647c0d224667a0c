-- Each element's settled parts are made of ids, kinds, listings, containers and bindings alone.
use Rattle.links.proofs.UnplacedLaws.{links-unplaced}
use Rattle.links.proofs.laws.other_parts_play_no_part.Goals as goal

pub returns : goal.returns
returns c = links-unplaced
