use Rattle.restore_table.proofs.Rows.{defaults-compact}
use Rattle.restore_table.proofs.table.rows.Goals as goal

pub returns-clause-compact : goal.returns-clause-compact
returns-clause-compact c = defaults-compact
