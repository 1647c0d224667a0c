use Rattle.copies.proofs.CopyNames.{copies-distinct}
use Rattle.copies.proofs.laws.ids_of_copies_are_distinct.Goals as goal

pub returns : goal.returns
returns c = copies-distinct
