-- There are as many places as settled and late ones.
use Rattle.std.proofs.Common.{length, ap, arith}
use Rattle.elem_store.specs.inner.Indexed.{PlaceList}
use Rattle.elem_store.proofs.Woven.{length-woven}
use Rattle.elem_store.proofs.indexed.Places.insert.Goals as goal

pub put-requires-clause-in_range : goal.put-requires-clause-in_range
put-requires-clause-in_range c =
    let p = c.self.inside in
    omega (
      arith,
      length-woven p.settled.items p.late.items (rw p.settled.ok.0 at c.self.invariant.0.within),
      ap (λ (p : PlaceList). length p.places) c.self.view_is,
      ap length c.in_ok-make_room.ensures.settled,
      ap length c.in_ok-make_room.ensures.late,
      c.make_room.new.settled.ok.0,
      c.make_room.new.late.ok.0,
    )
