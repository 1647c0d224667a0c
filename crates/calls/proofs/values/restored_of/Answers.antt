use Rattle.scene_json.proofs.CallerLemmas.{AreMembers-distinct}
use Rattle.calls.proofs.values.restored_of.Goals as goal

pub restore-requires : goal.restore-requires
restore-requires c = AreMembers-distinct 127 c.in_ok-found.found c.in_ok-found.ensures.kept
