use Rattle.restore_table.proofs.RestoredLaws.{lack-same, restored-again}
use Rattle.restore_table.proofs.laws.what_lacks_nothing_stays.Goals as goal

pub returns-clause-same : goal.returns-clause-same
returns-clause-same c = lack-same

pub returns-clause-again : goal.returns-clause-again
returns-clause-again c = restored-again
