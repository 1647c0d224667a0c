use Rattle.file_table.proofs.Tabled.{files-exist}
use Rattle.file_table.proofs.laws.files_exist.Goals as goal

pub returns : goal.returns
returns c = files-exist
