use Rattle.std.proofs.lemmas.Option.{MatchOption-at_some}
use Rattle.scene_json.proofs.CallerLemmas.{AreMembers-distinct}
use Rattle.elem_read.proofs.binding.binding_or_null.Goals as goal

pub further_members-requires : goal.further_members-requires
further_members-requires c =
    let object = MatchOption-at_some _ _ c.in-Some-2.members c.in-Some-2.is c.in_ok-members.ensures in
    AreMembers-distinct 127 c.in-Some-2.members object.are_members
