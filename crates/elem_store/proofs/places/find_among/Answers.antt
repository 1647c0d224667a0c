-- The comparison at the middle tells on which side the id is; a settled place is there.
use Rattle.std.proofs.Common.{◌≡◌, ◌+◌, ◌-◌, ◌/◌, Some, slice_get, sym, ◌∙◌, arith}
use Rattle.elem_store.specs.inner.Indexed.{woven}
use Rattle.elem_store.proofs.Placed.{between-less, between-greater, searched-found, searched-gap}
use Rattle.elem_store.proofs.Woven.{settled-at}
use Rattle.elem_store.proofs.places.find_among.Goals as goal
use Rattle.elem_store.proofs.places.find_among.Goals.{After-index}

here : (c : After-index) → slice_get (woven c.args.settled.now.items c.args.late.now.items)
    (c.loop-low.low + (c.loop-low.high - c.loop-low.low) / 2 + c.in-Err.field-0.late) ≡ Some c.index.result.now
here c =
    settled-at c.args.settled.now.items c.args.late.now.items _ _ _ _ c.index.result.now
    (rw c.args.settled.now.ok.0 at c.requires.gaps) c.in-Err.ensures.aside
    (omega (arith, c.loop-low.invariant.within)) (omega (arith, c.loop-low.invariant.within))
    (omega (arith, c.loop-low.invariant.within, c.in-Err.ensures.within, c.args.settled.now.ok.0)) c.index.ensures

pub loop-low-preserved-in-Less : goal.loop-low-preserved-in-Less
loop-low-preserved-in-Less c = record {
  between = between-less _ _ c.requires.in_order c.args.id.now _ _
      (here (goal.at.loop-low-preserved-in-Less c).After-index) _ _ _ (omega arith) c.loop-low.invariant.between
      (sym c.order_at.ensures ∙ c.in-Less.is);
  within = (omega (arith, c.loop-low.invariant.within), c.loop-low.invariant.within.1);
}

pub returns-in-Equal-clause-found : goal.returns-in-Equal-clause-found
returns-in-Equal-clause-found c =
    searched-found _ _ c.requires.in_order c.args.id.now _ _
    (here (goal.at.returns-in-Equal-clause-found c).After-index) (sym c.order_at.ensures ∙ c.in-Equal.is)

pub loop-low-preserved : goal.loop-low-preserved
loop-low-preserved c = record {
  between = between-greater _ _ c.requires.in_order c.args.id.now _ _ (here (goal.at.loop-low-preserved c).After-index)
      _ _ c.loop-low.invariant.between (sym c.order_at.ensures ∙ c.in-Greater.is);
  within = (c.loop-low.invariant.within.0, omega (arith, c.loop-low.invariant.within));
}

pub returns-clause-absent : goal.returns-clause-absent
returns-clause-absent c =
    searched-gap _ _ c.requires.in_order c.args.id.now _ _ (omega arith) c.loop-low.invariant.between
