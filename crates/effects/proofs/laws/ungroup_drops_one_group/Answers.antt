use Rattle.effects.proofs.MemberLaws.{ungroup-gone, ungroup-given, ungroup-kept}
use Rattle.effects.proofs.laws.ungroup_drops_one_group.Goals as goal

pub returns-clause-gone : goal.returns-clause-gone
returns-clause-gone c = λ stored shown given ids group time nonce ordered told. ungroup-gone stored shown time nonce
    given ordered ids group told

pub returns-clause-rest : goal.returns-clause-rest
returns-clause-rest c = λ stored shown given ids group time nonce ordered told. ungroup-given stored shown time nonce
    given ordered ids group told

pub returns-clause-kept : goal.returns-clause-kept
returns-clause-kept c = λ stored shown given ids group time nonce ordered told. ungroup-kept stored shown time nonce
    given ordered ids group told
