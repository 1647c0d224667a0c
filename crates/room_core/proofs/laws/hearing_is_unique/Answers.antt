use Rattle.room_core.proofs.MemberLaws.{hearing-once}
use Rattle.room_core.proofs.laws.hearing_is_unique.Goals as goal

pub returns : goal.returns
returns c = hearing-once
