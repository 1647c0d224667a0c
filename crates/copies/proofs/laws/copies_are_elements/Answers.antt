use Rattle.copies.proofs.CopyKept.{copies-elements}
use Rattle.copies.proofs.laws.copies_are_elements.Goals as goal

pub returns : goal.returns
returns c = copies-elements
