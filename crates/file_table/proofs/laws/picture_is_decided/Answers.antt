use Rattle.file_table.proofs.Tabled.{picture-exists}
use Rattle.file_table.proofs.laws.picture_is_decided.Goals as goal

pub returns : goal.returns
returns c = picture-exists
