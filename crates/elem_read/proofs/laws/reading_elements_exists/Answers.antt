use Rattle.elem_read.proofs.ReadElements.{read-or-faulty}
use Rattle.elem_read.proofs.laws.reading_elements_exists.Goals as goal

pub returns : goal.returns
returns c = read-or-faulty
