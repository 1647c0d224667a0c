use Rattle.effects.proofs.LabelLaws.{label-names, label-lists, label-only, label-left, label-keeps, label-kept}
use Rattle.effects.proofs.laws.label_joins_text_and_container.Goals as goal

pub returns-clause-names : goal.returns-clause-names
returns-clause-names c = λ stored shown given container text time nonce ordered told. label-names stored shown time
    nonce given ordered container text told

pub returns-clause-listed : goal.returns-clause-listed
returns-clause-listed c = λ stored shown given container text time nonce ordered told. label-lists stored shown time
    nonce given ordered container text told

pub returns-clause-only : goal.returns-clause-only
returns-clause-only c = λ stored shown given container text time nonce ordered told. label-only stored shown time nonce
    given ordered container text told

pub returns-clause-left : goal.returns-clause-left
returns-clause-left c = λ stored shown given container text time nonce ordered told. label-left stored shown time nonce
    given ordered container text told

pub returns-clause-rest : goal.returns-clause-rest
returns-clause-rest c = λ stored shown given container text time nonce ordered told. label-keeps stored shown time nonce
    given ordered container text told

pub returns-clause-kept : goal.returns-clause-kept
returns-clause-kept c = λ stored shown given container text time nonce ordered told. label-kept stored shown time nonce
    given ordered container text told
