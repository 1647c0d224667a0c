use Rattle.room_core.proofs.MemberLaws.{members-agree}
use Rattle.room_core.proofs.laws.members_agree.Goals as goal

pub returns : goal.returns
returns c = members-agree c.read_messages_are_whole.ensures c.what_is_read_is_an_element.ensures.whole
