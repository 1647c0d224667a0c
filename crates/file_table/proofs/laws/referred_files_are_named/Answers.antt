use Rattle.file_table.proofs.Referred.{referred-at, referred-ids}
use Rattle.file_table.proofs.laws.referred_files_are_named.Goals as goal

pub returns-clause-exact : goal.returns-clause-exact
returns-clause-exact c = referred-at

pub returns-clause-order : goal.returns-clause-order
returns-clause-order c = referred-ids
