use Rattle.frames_groups.proofs.GroupLaws.{groups_settled-distinct}
use Rattle.frames_groups.proofs.laws.distinct_groups_stay.Goals as goal

pub returns : goal.returns
returns c = groups_settled-distinct
