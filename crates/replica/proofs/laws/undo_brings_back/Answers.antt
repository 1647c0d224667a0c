use Rattle.replica.proofs.Moving.{undone-is, undone-all, undo-is_found}
use Rattle.replica.proofs.laws.undo_brings_back.Goals as goal

pub returns-clause-back : goal.returns-clause-back
returns-clause-back c = undone-is

pub returns-clause-found : goal.returns-clause-found
returns-clause-found c = undo-is_found

pub returns-clause-all : goal.returns-clause-all
returns-clause-all c = undone-all
