use Rattle.std.proofs.Common.{◌∙◌}
use Rattle.elem_read.proofs.kinds.others.Goals as goal

pub returns : goal.returns
returns c = rw (c.in_ok-shrunk.ensures ∙ c.drop_headers.ensures) at c.of.ensures
