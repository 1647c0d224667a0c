use Rattle.replica.proofs.Moving.{redone-is, redone-all, redo-is_found}
use Rattle.replica.proofs.laws.redo_repeats.Goals as goal

pub returns-clause-again : goal.returns-clause-again
returns-clause-again c = redone-is

pub returns-clause-found : goal.returns-clause-found
returns-clause-found c = redo-is_found

pub returns-clause-all : goal.returns-clause-all
returns-clause-all c = redone-all
