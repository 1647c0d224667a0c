use Rattle.file_table.proofs.Least.{least-is}
use Rattle.file_table.proofs.laws.least_entry_is_least.Goals as goal

pub returns : goal.returns
returns c = least-is
