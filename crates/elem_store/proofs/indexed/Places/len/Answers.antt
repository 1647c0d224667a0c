-- There are as many places as settled and late ones.
use Rattle.std.proofs.Common.{length, ap, arith}
use Rattle.elem_store.specs.inner.Indexed.{PlaceList}
use Rattle.elem_store.proofs.Woven.{length-woven}
use Rattle.elem_store.proofs.indexed.Places.len.Goals as goal

pub returns : goal.returns
returns c =
    let p = c.self.inside in
    omega (
      arith,
      length-woven p.settled.items p.late.items (rw p.settled.ok.0 at c.self.invariant.0.within),
      ap (λ (p : PlaceList). length p.places) c.self.view_is,
    )
