use Rattle.effects.proofs.BindLaws.{unbind-frees, unbind-left, unbind-keeps, unbind-kept}
use Rattle.effects.proofs.laws.unbind_frees_the_end.Goals as goal

pub returns-clause-freed : goal.returns-clause-freed
returns-clause-freed c = λ stored shown given arrow side time nonce ordered told. unbind-frees stored shown time nonce
    given ordered arrow side told

pub returns-clause-left : goal.returns-clause-left
returns-clause-left c = λ stored shown given arrow side time nonce ordered told. unbind-left stored shown time nonce
    given ordered arrow side told

pub returns-clause-rest : goal.returns-clause-rest
returns-clause-rest c = λ stored shown given arrow side time nonce ordered told. unbind-keeps stored shown time nonce
    given ordered arrow side told

pub returns-clause-kept : goal.returns-clause-kept
returns-clause-kept c = λ stored shown given arrow side time nonce ordered told. unbind-kept stored shown time nonce
    given ordered arrow side told
