use Rattle.session_laws.proofs.Showing.{stores-same, shows-same, shows-rising, shows-settled}
use Rattle.session_laws.proofs.laws.replicas_converge.Goals as goal

pub returns-clause-stored : goal.returns-clause-stored
returns-clause-stored c =
    λ session count s other is among also same. stores-same session is count s other among also same

pub returns-clause-shown : goal.returns-clause-shown
returns-clause-shown c = λ session count s other is among also same. shows-same session is count s other among also same

pub returns-clause-rise : goal.returns-clause-rise
returns-clause-rise c = λ session count s is among. shows-rising session is count s among

pub returns-clause-settled : goal.returns-clause-settled
returns-clause-settled c = λ session count s is among. shows-settled session is count s among
