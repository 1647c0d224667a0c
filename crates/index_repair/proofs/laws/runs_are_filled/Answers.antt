use Rattle.index_repair.proofs.Parts.{run-filled, split-filled, run_between-filled, first_run-filled, last_run-filled}
use Rattle.index_repair.proofs.laws.runs_are_filled.Goals as goal

pub returns-clause-alone : goal.returns-clause-alone
returns-clause-alone c = run-filled

pub returns-clause-split : goal.returns-clause-split
returns-clause-split c = split-filled

pub returns-clause-between : goal.returns-clause-between
returns-clause-between c = run_between-filled

pub returns-clause-first : goal.returns-clause-first
returns-clause-first c = first_run-filled

pub returns-clause-last : goal.returns-clause-last
returns-clause-last c = last_run-filled
