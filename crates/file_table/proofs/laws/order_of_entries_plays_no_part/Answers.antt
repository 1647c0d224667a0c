use Rattle.file_table.proofs.Least.{AreLeastEntries-moved}
use Rattle.file_table.proofs.laws.order_of_entries_plays_no_part.Goals as goal

pub returns : goal.returns
returns c = AreLeastEntries-moved
