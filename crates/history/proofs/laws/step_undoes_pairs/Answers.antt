use Rattle.history.proofs.UndoneLaws.{undone-pairs}
use Rattle.history.proofs.laws.step_undoes_pairs.Goals as goal

pub returns : goal.returns
returns c = λ parts pairs store given time nonce stands elements are gives. undone-pairs parts store given time nonce
    are gives pairs stands elements
