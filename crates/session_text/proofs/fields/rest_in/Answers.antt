use Rattle.std.proofs.lemmas.Option.{MatchOption-at_some}
use Rattle.scene_json.proofs.CallerLemmas.{AreMembers-distinct}
use Rattle.session_text.proofs.fields.rest_in.Goals as goal

pub further_members-requires : goal.further_members-requires
further_members-requires c =
    let object = MatchOption-at_some _ _ c.in-Some.found c.in-Some.is c.in_ok-found.ensures in
    AreMembers-distinct 127 c.in-Some.found object.are_members
