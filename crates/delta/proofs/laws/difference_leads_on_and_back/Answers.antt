use Rattle.delta.proofs.PartLaws.{applied-forward, applied-back}
use Rattle.delta.proofs.laws.difference_leads_on_and_back.Goals as goal

pub returns-clause-on : goal.returns-clause-on
returns-clause-on c = λ part old new result is is' isresult id kind stands applied. applied-forward part old new is is'
    stands result isresult id kind applied

pub returns-clause-back : goal.returns-clause-back
returns-clause-back c = λ part old new result is is' isresult id kind stands applied. applied-back part old new is is'
    stands result isresult id kind applied
