-- Reading the text of a whole element gives it.
use Rattle.elem_read.proofs.ReadElements.{AreRead-texts}
use Rattle.elem_read.proofs.laws.texts_are_read.Goals as goal

pub returns : goal.returns
returns c = AreRead-texts
