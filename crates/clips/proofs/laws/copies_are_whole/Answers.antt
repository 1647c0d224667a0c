use Rattle.clips.proofs.WholeCopies.{copies-whole}
use Rattle.clips.proofs.laws.copies_are_whole.Goals as goal

pub returns : goal.returns
returns c = copies-whole
