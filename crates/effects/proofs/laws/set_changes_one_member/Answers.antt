use Rattle.effects.proofs.MemberLaws.{set-given, set-others, set-headers, set-kept}
use Rattle.effects.proofs.laws.set_changes_one_member.Goals as goal

pub returns-clause-given : goal.returns-clause-given
returns-clause-given c = λ stored shown given id member value time nonce ordered told. set-given stored shown time nonce
    given ordered id member value told

pub returns-clause-others : goal.returns-clause-others
returns-clause-others c = λ stored shown given id member value time nonce ordered told. set-others stored shown time
    nonce given ordered id member value told

pub returns-clause-headers : goal.returns-clause-headers
returns-clause-headers c = λ stored shown given id member value time nonce ordered told. set-headers stored shown time
    nonce given ordered id member value told

pub returns-clause-kept : goal.returns-clause-kept
returns-clause-kept c = λ stored shown given id member value time nonce ordered told. set-kept stored shown time nonce
    given ordered id member value told
