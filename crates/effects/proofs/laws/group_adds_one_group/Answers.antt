use Rattle.effects.proofs.MemberLaws.{group-there, group-given, group-kept}
use Rattle.effects.proofs.laws.group_adds_one_group.Goals as goal

pub returns-clause-grouped : goal.returns-clause-grouped
returns-clause-grouped c = λ stored shown given ids group time nonce ordered told. group-there stored shown time nonce
    given ordered ids group told

pub returns-clause-rest : goal.returns-clause-rest
returns-clause-rest c = λ stored shown given ids group time nonce ordered told. group-given stored shown time nonce
    given ordered ids group told

pub returns-clause-kept : goal.returns-clause-kept
returns-clause-kept c = λ stored shown given ids group time nonce ordered told. group-kept stored shown time nonce given
    ordered ids group told
