use Rattle.effects.proofs.CommandLaws.{key-within, created-within, placed-within}
use Rattle.effects.proofs.laws.key_lies_at_its_spot.Goals as goal

pub returns-clause-key : goal.returns-clause-key
returns-clause-key c = key-within

pub returns-clause-created : goal.returns-clause-created
returns-clause-created c = λ stored shown given element spot time nonce ordered rising keys. created-within stored shown
    time nonce given ordered rising keys element spot

pub returns-clause-placed : goal.returns-clause-placed
returns-clause-placed c = λ stored shown given id spot time nonce ordered rising keys. placed-within stored shown time
    nonce given ordered rising keys id spot
