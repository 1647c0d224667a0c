use Rattle.std.proofs.Common.{◌≡◌, None, take}
use Rattle.elem_store.specs.Updates.{element_of}
use Rattle.kept_view.proofs.coming.element_in.Given as goal

abbrev pub invariant-loop-e : goal.invariant-loop-e
invariant-loop-e l = element_of (take l.e-index l.elements) l.id ≡ None
