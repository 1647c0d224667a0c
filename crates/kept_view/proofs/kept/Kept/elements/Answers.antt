use Rattle.kept_view.proofs.kept.Kept.elements.Goals as goal

pub returns : goal.returns
returns c = rw (← c.self.view_is, c.as_slice.ensures.value) c.self.invariant.view
