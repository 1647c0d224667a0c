-- The comparison at the middle of the late places tells on which side of it the id is, among all.
use Rattle.std.proofs.Common.{◌≡◌, ◌+◌, ◌-◌, ◌/◌, length, Some, slice_get, sym, ap, ◌∙◌, arith}
use Rattle.elem_store.specs.declared.indexed.Late.{Late}
use Rattle.elem_store.specs.inner.Indexed.{woven}
use Rattle.elem_store.proofs.Placed.{between-less, between-greater, searched-found}
use Rattle.elem_store.proofs.Woven.{length-woven, late-at, before-middle, after-middle}
use Rattle.elem_store.proofs.places.find_late.Goals as goal
use Rattle.elem_store.proofs.places.find_late.Goals.{After-index}

pub loop-first-init : goal.loop-first-init
loop-first-init c =
    let settled = c.args.settled.now in
    let late = c.args.late.now in
    let all : length (woven settled.items late.items) ≡ c.len-to.result + c.len-last.result =
    omega (
      arith,
      length-woven settled.items late.items (rw settled.ok.0 at c.requires.gaps.within),
      settled.ok.0,
      late.ok.0,
    ) in
    record {
      between = grind (arith, all);
      aside = grind (arith, late.ok.0);
      within = omega arith;
    }

here : (c : After-index) → slice_get (woven c.args.settled.now.items c.args.late.now.items)
    (c.index.result.now.gap + (c.loop-first.first + (c.loop-first.last - c.loop-first.first) / 2))
    ≡ Some c.index.result.now.place
here c =
    late-at c.args.settled.now.items c.args.late.now.items _ c.index.result.now
    (rw c.args.settled.now.ok.0 at c.requires.gaps) (omega (arith, c.loop-first.invariant.aside.in_range))
    c.index.ensures

pub loop-first-preserved-in-Less : goal.loop-first-preserved-in-Less
loop-first-preserved-in-Less c =
    let aside = c.loop-first.invariant.aside in
    record {
      between = between-less _ _ c.requires.in_order c.args.id.now _ _
          (here (goal.at.loop-first-preserved-in-Less c).After-index) _ _ _ (omega arith) c.loop-first.invariant.between
          (sym c.order_at.ensures ∙ c.in-Less.is);
      aside = record {
        order = omega arith;
        in_range = aside.in_range;
        before = before-middle c.args.late.now.items _ _ c.index.result.now c.requires.gaps.rising
            (omega (arith, aside.in_range)) c.index.ensures (omega arith);
        after = aside.after;
      };
      within = c.loop-first.invariant.within;
    }

pub returns-in-Equal-clause-found : goal.returns-in-Equal-clause-found
returns-in-Equal-clause-found c =
    searched-found _ _ c.requires.in_order c.args.id.now _ _
    (here (goal.at.returns-in-Equal-clause-found c).After-index) (sym c.order_at.ensures ∙ c.in-Equal.is)

pub loop-first-preserved : goal.loop-first-preserved
loop-first-preserved c =
    let aside = c.loop-first.invariant.aside in
    let gap = ap (λ (l : Late). l.gap) c.index.ensures in
    record {
      between = between-greater _ _ c.requires.in_order c.args.id.now _ _
          (here (goal.at.loop-first-preserved c).After-index) _ _ c.loop-first.invariant.between (sym c.order_at.ensures
          ∙ c.in-Greater.is);
      aside = record {
        order = omega arith;
        in_range = omega (arith, aside.in_range);
        before = aside.before;
        after = after-middle c.args.late.now.items _ _ c.index.result.now c.requires.gaps.rising
            (omega (arith, aside.in_range)) c.index.ensures (omega arith);
      };
      within =
          omega (
            arith,
            gap,
            c.requires.gaps.within (c.loop-first.first + (c.loop-first.last - c.loop-first.first) / 2)
                c.index.result.now (omega (arith, aside.in_range)),
          );
    }
