-- The ids still rise.
use Rattle.std.proofs.Common.{ap, ◌∙◌}
use Rattle.frac_keys.specs.Rising.{are_rising}
use Rattle.elem_store.specs.Updates.{ids_of}
use Rattle.snapshot.proofs.PutLaws.{all-rise}
use Rattle.snapshot.proofs.snapshot.Snapshot.put.Goals as goal

pub invariant_of-self : goal.invariant_of-self
invariant_of-self c =
    ap (λ es. are_rising (ids_of es)) c.put_all.ensures
    ∙ all-rise c.step.inside.elements.items c.self.inside.elements.items c.self.invariant
