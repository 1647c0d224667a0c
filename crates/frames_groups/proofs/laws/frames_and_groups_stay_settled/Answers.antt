use Rattle.frames_groups.proofs.GroupLaws.{NameFrames-grouped, HaveDistinctGroups-framed, settled-either}
use Rattle.frames_groups.proofs.laws.frames_and_groups_stay_settled.Goals as goal

pub returns-clause-frames : goal.returns-clause-frames
returns-clause-frames c = NameFrames-grouped

pub returns-clause-groups : goal.returns-clause-groups
returns-clause-groups c = HaveDistinctGroups-framed

pub returns-clause-either : goal.returns-clause-either
returns-clause-either c = settled-either
