use Rattle.elem_read.proofs.ReadElements.{All-whole}
use Rattle.elem_read.proofs.laws.read_elements_are_whole.Goals as goal

pub returns : goal.returns
returns c = All-whole
