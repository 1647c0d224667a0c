use Rattle.copies.proofs.CopyNames.{copies-name}
use Rattle.copies.proofs.laws.copies_name_as_originals_do.Goals as goal

pub returns : goal.returns
returns c = copies-name
