use Rattle.std.proofs.Common.{sym, ap, ◌∙◌}
use Rattle.links.specs.inner.Tables.{with_entries}
use Rattle.links.proofs.Tabled.{arrow_entries-none, with_entries-row}
use Rattle.links.proofs.names.Names.add_arrows.Goals as goal

pub loop-row-preserved : goal.loop-row-preserved
loop-row-preserved c = (
  with_entries-row c.args.listing.now.entries.items c.rows_under-row-items.result.now c.loop-row.row-index
      c.row-item.result c.id_of-in-loop-row.result.now
      c.loop-row.listing.entries.items _ c.loop-row-test.true c.row-item.is c.id_of-in-loop-row.ensures
      c.loop-row.invariant.0 c.in_ok-add.ensures.entries,
  c.in_ok-add.ensures.seen,
)

pub returns-else-is_target-clause-entries : goal.returns-else-is_target-clause-entries
returns-else-is_target-clause-entries c =
    ap (with_entries c.args.listing.now.entries.items)
    (sym (arrow_entries-none c.args.self.now c.args.e.now (sym c.is_target.ensures ∙ c.if-is_target.false)))
