use Rattle.effects.proofs.CopyLaws.{duplicate-kept, duplicate-rest, none-duplicated, none-pasted, paste-kept, paste-rest}
use Rattle.effects.proofs.laws.copies_change_nothing_else.Goals as goal

pub returns-clause-duplicated : goal.returns-clause-duplicated
returns-clause-duplicated c = λ stored shown given ids prefix spot time nonce ordered. duplicate-rest stored shown given
    time nonce ordered ids prefix spot

pub returns-clause-pasted : goal.returns-clause-pasted
returns-clause-pasted c = λ stored shown given elements prefix spot time nonce ordered. paste-rest stored shown given
    time nonce ordered elements prefix spot

pub returns-clause-none_duplicated : goal.returns-clause-none_duplicated
returns-clause-none_duplicated c = λ stored shown given ids prefix spot time nonce ordered. none-duplicated stored shown
    given time nonce ordered ids prefix spot

pub returns-clause-none_pasted : goal.returns-clause-none_pasted
returns-clause-none_pasted c =
    λ stored shown given prefix spot time nonce ordered. none-pasted stored shown given time nonce ordered prefix spot

pub returns-clause-kept_beside_duplicated : goal.returns-clause-kept_beside_duplicated
returns-clause-kept_beside_duplicated c = λ stored shown given ids prefix spot time nonce ordered. duplicate-kept stored
    shown given time nonce ordered ids prefix spot

pub returns-clause-kept_beside_pasted : goal.returns-clause-kept_beside_pasted
returns-clause-kept_beside_pasted c = λ stored shown given elements prefix spot time nonce ordered. paste-kept stored
    shown given time nonce ordered elements prefix spot
