use Rattle.std.proofs.Common.{subst}
use Rattle.elem.specs.Said.{AreElements}
use Rattle.checks.proofs.board.store_of.Goals as goal

pub returns-clause-elements : goal.returns-clause-elements
returns-clause-elements c = subst AreElements c.as_slice.ensures.value c.in_ok-copies.ensures.elements
