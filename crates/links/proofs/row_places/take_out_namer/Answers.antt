use Rattle.std.proofs.Common.{arith, sym, refl, ◌∙◌}
use Rattle.links.specs.Rows.{rows_at}
use Rattle.links.proofs.RowSweep.{AreSwept-first, AreSwept-kept, AreSwept-removed, AreSwept-all}
use Rattle.links.proofs.row_places.take_out_namer.Goals as goal

pub loop-i-init : goal.loop-i-init
loop-i-init c =
    (AreSwept-first c.args.id.now c.args.named.now.items c.args.namers.now.items c.requires, omega arith, refl, refl)

pub loop-i-preserved-then-eq : goal.loop-i-preserved-then-eq
loop-i-preserved-then-eq c = (
  rw (c.remove.ensures.items, c.remove-then-eq.ensures.items)
      (AreSwept-removed c.args.id.now (rows_at c.args.named.now.items c.args.namers.now.items) c.loop-i.named.items
      c.loop-i.namers.items c.loop-i.i c.loop-i.invariant.0
      (omega arith) c.index.result.now c.index.ensures (sym c.eq.ensures ∙ c.if-eq.true)),
  omega (arith, c.remove.ensures.len, c.loop-i.invariant.1),
  c.remove.ensures.capacity ∙ c.loop-i.invariant.2,
  c.remove-then-eq.ensures.capacity ∙ c.loop-i.invariant.3,
)

pub loop-i-preserved : goal.loop-i-preserved
loop-i-preserved c = (
  AreSwept-kept c.args.id.now (rows_at c.args.named.now.items c.args.namers.now.items) c.loop-i.named.items
      c.loop-i.namers.items c.loop-i.i c.loop-i.invariant.0
      (omega arith) c.index.result.now c.index.ensures (sym c.eq.ensures ∙ c.if-eq.false),
  c.loop-i.invariant.1,
  c.loop-i.invariant.2,
  c.loop-i.invariant.3,
)

pub returns-clause-rows : goal.returns-clause-rows
returns-clause-rows c =
    AreSwept-all c.args.id.now (rows_at c.args.named.now.items c.args.namers.now.items) c.loop-i.named.items
    c.loop-i.namers.items c.loop-i.i c.loop-i.invariant.0 (omega arith)
