use Rattle.effects.proofs.CommandLaws.{bound-end, bound-listed}
use Rattle.effects.proofs.BindLaws.{bind-left, bind-keeps, bind-kept}
use Rattle.effects.proofs.laws.bind_links_both_ways.Goals as goal

pub returns-clause-names : goal.returns-clause-names
returns-clause-names c = λ stored shown given arrow side target rest time nonce ordered told. bound-end stored shown
    time nonce given ordered arrow side target rest told

pub returns-clause-listed : goal.returns-clause-listed
returns-clause-listed c = λ stored shown given arrow side target rest time nonce ordered told. bound-listed stored shown
    time nonce given ordered arrow side target rest told

pub returns-clause-left : goal.returns-clause-left
returns-clause-left c = λ stored shown given arrow side target rest time nonce ordered told. bind-left stored shown time
    nonce given ordered arrow side target rest told

pub returns-clause-rest : goal.returns-clause-rest
returns-clause-rest c = λ stored shown given arrow side target rest time nonce ordered told. bind-keeps stored shown
    time nonce given ordered arrow side target rest told

pub returns-clause-kept : goal.returns-clause-kept
returns-clause-kept c = λ stored shown given arrow side target rest time nonce ordered told. bind-kept stored shown time
    nonce given ordered arrow side target rest told
