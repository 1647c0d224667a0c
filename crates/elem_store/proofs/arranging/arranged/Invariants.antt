use Rattle.elem_store.specs.inner.Arranging.{AreArranged}
use Rattle.elem_store.proofs.arranging.arranged.Given as goal

-- what is wanted so far stands in its order, and what is left of it is told by the places
abbrev pub invariant-loop-i : goal.invariant-loop-i
invariant-loop-i g l =
    AreArranged l.fn.items.items l.fn.places.items l.items.items l.places.items l.wanted_by.items l.i
