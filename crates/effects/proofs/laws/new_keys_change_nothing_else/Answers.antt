use Rattle.effects.proofs.BindLaws.{create-given, create-rest, place-given, place-rest}
use Rattle.effects.proofs.laws.new_keys_change_nothing_else.Goals as goal

pub returns-clause-created : goal.returns-clause-created
returns-clause-created c = λ stored shown given element spot time nonce ordered told. create-given stored shown time
    nonce given ordered element spot told

pub returns-clause-beside_created : goal.returns-clause-beside_created
returns-clause-beside_created c = λ stored shown given element spot time nonce ordered told. create-rest stored shown
    time nonce given ordered element spot told

pub returns-clause-placed : goal.returns-clause-placed
returns-clause-placed c =
    λ stored shown given id spot time nonce ordered told. place-given stored shown time nonce given ordered id spot told

pub returns-clause-beside_placed : goal.returns-clause-beside_placed
returns-clause-beside_placed c =
    λ stored shown given id spot time nonce ordered told. place-rest stored shown time nonce given ordered id spot told
