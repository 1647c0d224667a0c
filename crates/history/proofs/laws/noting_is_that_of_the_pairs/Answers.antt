use Rattle.history.proofs.EntryPairs.{same-empty}
use Rattle.history.proofs.StackPairs.{noted-stands, left-stands}
use Rattle.history.proofs.laws.noting_is_that_of_the_pairs.Goals as goal

pub returns-clause-empty : goal.returns-clause-empty
returns-clause-empty c = same-empty

pub returns-clause-undo : goal.returns-clause-undo
returns-clause-undo c = noted-stands

pub returns-clause-redo : goal.returns-clause-redo
returns-clause-redo c = left-stands

pub returns-clause-none : goal.returns-clause-none
returns-clause-none c = tt
