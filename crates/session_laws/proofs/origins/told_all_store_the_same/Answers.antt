use Rattle.session_laws.proofs.Telling.{told-all, told-same}
use Rattle.session_laws.proofs.origins.told_all_store_the_same.Goals as goal

pub returns-clause-all : goal.returns-clause-all
returns-clause-all c = told-all

pub returns-clause-same : goal.returns-clause-same
returns-clause-same c = told-same
