use Rattle.file_table.proofs.Least.{AreLeastEntries-join, AreLeastEntries-own}
use Rattle.file_table.proofs.laws.files_join.Goals as goal

pub returns-clause-joined : goal.returns-clause-joined
returns-clause-joined c = AreLeastEntries-join

pub returns-clause-own : goal.returns-clause-own
returns-clause-own c = AreLeastEntries-own
