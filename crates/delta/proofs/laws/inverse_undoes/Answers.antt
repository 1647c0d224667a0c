use Rattle.delta.proofs.PartLaws.{undone-from}
use Rattle.delta.proofs.laws.inverse_undoes.Goals as goal

pub returns : goal.returns
returns c = λ part before after now result is is' isnow isresult stands applied. undone-from part before after is is'
    stands now result isnow isresult applied
