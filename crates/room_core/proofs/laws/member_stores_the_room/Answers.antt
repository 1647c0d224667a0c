use Rattle.room_core.proofs.MemberLaws.{member-stores}
use Rattle.room_core.proofs.laws.member_stores_the_room.Goals as goal

pub returns : goal.returns
returns c = member-stores
