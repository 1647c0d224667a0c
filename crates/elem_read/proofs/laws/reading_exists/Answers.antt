use Rattle.elem_read.proofs.Read.{read-exists}
use Rattle.elem_read.proofs.laws.reading_exists.Goals as goal

pub returns : goal.returns
returns c = read-exists
