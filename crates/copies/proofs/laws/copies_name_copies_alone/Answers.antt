use Rattle.copies.proofs.CopyNames.{names-alone}
use Rattle.copies.proofs.laws.copies_name_copies_alone.Goals as goal

pub returns : goal.returns
returns c = names-alone
