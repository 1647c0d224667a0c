use Rattle.file_table.proofs.Least.{AreLeastEntries-unique, AreLeastEntries-none}
use Rattle.file_table.proofs.laws.files_are_unique.Goals as goal

pub returns-clause-unique : goal.returns-clause-unique
returns-clause-unique c = AreLeastEntries-unique

pub returns-clause-none : goal.returns-clause-none
returns-clause-none c = AreLeastEntries-none
