use Rattle.history.proofs.UndoneLaws.{brought-back}
use Rattle.history.proofs.laws.step_brings_back.Goals as goal

pub returns : goal.returns
returns c = λ parts old store given time nonce now stands olds are gives stored kind. brought-back parts store given
    time nonce are gives old now stands olds stored kind
