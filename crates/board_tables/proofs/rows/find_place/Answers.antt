use Rattle.std.proofs.Common.{◌-◌, ◌<◌, length, ap, sym, arith}
use Rattle.elem.specs.ElementValue.{ElementValue}
use Rattle.board_tables.proofs.RowLemmas.{above-more, gap-here, found-here, read-here, order-here}
use Rattle.board_tables.proofs.rows.find_place.Goals as goal

pub returns-in-Less-clause-absent : goal.returns-in-Less-clause-absent
returns-in-Less-clause-absent c =
    let inside : c.loop-i.i - 1 < length c.args.elements.now.items =
    omega (arith, c.loop-i.invariant.within, c.loop-i-test.true, c.args.elements.now.ok.0) in
    let here = read-here c.args.elements.now.items (c.loop-i.i - 1) c.index-e.result.now inside c.index-e.ensures in
    gap-here _ _ c.loop-i.i _ _ (omega (arith, c.loop-i-test.true)) here c.requires
    (order-here c.index-e.result.now _ _ _ c.args.id.now _ _
    (ap (λ (e : ElementValue). e.id) (sym c.e.view_is)) c.as_bytes.ensures.value c.as_bytes-in-loop-i.ensures.value
    c.bytes_order.ensures c.in-Less.is) c.loop-i.invariant.greater

pub returns-in-Equal-clause-found : goal.returns-in-Equal-clause-found
returns-in-Equal-clause-found c =
    let inside : c.loop-i.i - 1 < length c.args.elements.now.items =
    omega (arith, c.loop-i.invariant.within, c.loop-i-test.true, c.args.elements.now.ok.0) in
    let here = read-here c.args.elements.now.items (c.loop-i.i - 1) c.index-e.result.now inside c.index-e.ensures in
    found-here _ _ c.loop-i.i (c.loop-i.i - 1) _ (omega (arith, c.loop-i-test.true)) here
    (order-here c.index-e.result.now _ _ _ c.args.id.now _ _
    (ap (λ (e : ElementValue). e.id) (sym c.e.view_is)) c.as_bytes.ensures.value c.as_bytes-in-loop-i.ensures.value
    c.bytes_order.ensures c.in-Equal.is)

pub loop-i-preserved : goal.loop-i-preserved
loop-i-preserved c =
    let inside : c.loop-i.i - 1 < length c.args.elements.now.items =
    omega (arith, c.loop-i.invariant.within, c.loop-i-test.true, c.args.elements.now.ok.0) in
    let here = read-here c.args.elements.now.items (c.loop-i.i - 1) c.index-e.result.now inside c.index-e.ensures in
    record {
      within = omega (arith, c.loop-i.invariant.within);
      greater = above-more _ _ c.loop-i.i _ _ (omega (arith, c.loop-i-test.true)) here
          (order-here c.index-e.result.now _ _ _ c.args.id.now _ _
          (ap (λ (e : ElementValue). e.id) (sym c.e.view_is)) c.as_bytes.ensures.value c.as_bytes-in-loop-i.ensures.value
          c.bytes_order.ensures c.in-Greater.is) c.loop-i.invariant.greater;
    }
