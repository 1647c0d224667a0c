use Rattle.effects.proofs.OutcomeLaws.{given-rise, given-taken, given-kind, given-seen}
use Rattle.effects.proofs.laws.given_elements_are_taken.Goals as goal

pub returns-clause-rise : goal.returns-clause-rise
returns-clause-rise c =
    λ stored shown given command time nonce ordered told. given-rise stored shown command time nonce given told ordered

pub returns-clause-taken : goal.returns-clause-taken
returns-clause-taken c =
    λ stored shown given command time nonce ordered told. given-taken stored shown command time nonce given told ordered

pub returns-clause-kind : goal.returns-clause-kind
returns-clause-kind c =
    λ stored shown given command time nonce ordered told. given-kind stored shown command time nonce given told ordered

pub returns-clause-seen : goal.returns-clause-seen
returns-clause-seen c =
    λ stored shown given command time nonce ordered told. given-seen stored shown command time nonce given told ordered
