use Rattle.effects.proofs.LabelLaws.{unlabel-frees, unlabel-left, unlabel-keeps, unlabel-kept}
use Rattle.effects.proofs.laws.unlabel_parts_text_and_container.Goals as goal

pub returns-clause-freed : goal.returns-clause-freed
returns-clause-freed c =
    λ stored shown given text time nonce ordered told. unlabel-frees stored shown time nonce given ordered text told

pub returns-clause-left : goal.returns-clause-left
returns-clause-left c =
    λ stored shown given text time nonce ordered told. unlabel-left stored shown time nonce given ordered text told

pub returns-clause-rest : goal.returns-clause-rest
returns-clause-rest c =
    λ stored shown given text time nonce ordered told. unlabel-keeps stored shown time nonce given ordered text told

pub returns-clause-kept : goal.returns-clause-kept
returns-clause-kept c =
    λ stored shown given text time nonce ordered told. unlabel-kept stored shown time nonce given ordered text told
