use Rattle.effect_laws.proofs.Stamps.{given-change, given-nonce, given-time}
use Rattle.effect_laws.proofs.laws.given_elements_are_stamped.Goals as goal

pub returns-clause-time : goal.returns-clause-time
returns-clause-time c =
    λ stored shown given command time nonce ordered told. given-time stored shown command time nonce given told ordered

pub returns-clause-nonce : goal.returns-clause-nonce
returns-clause-nonce c =
    λ stored shown given command time nonce ordered told. given-nonce stored shown command time nonce given told ordered

pub returns-clause-change : goal.returns-clause-change
returns-clause-change c = λ stored shown given command time nonce ordered told. given-change stored shown command time
    nonce given told ordered
