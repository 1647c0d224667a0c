use Rattle.std.proofs.Common.{sym, ◌∙◌}
use Rattle.links.specs.Arrows.{is_true_entry}
use Rattle.links.proofs.Tabled.{first_entries-kept, first_entries-left}
use Rattle.links.proofs.names.Names.add_own.Goals as goal
use Rattle.links.proofs.names.Names.add_own.Goals.{then-is_true_entry+in_ok-add, else-is_true_entry}

pub loop-entry-preserved : goal.loop-entry-preserved
loop-entry-preserved c =
    let p = is_true_entry c.args.self.now c.args.e.now in
    elim c.if-is_true_entry.branch [
      | then-is_true_entry+in_ok-add w ↦ rw w.listing-is (
        first_entries-kept p c.as_slice-entry-items.result.now c.loop-entry.entry-index c.entry-item.result
            c.loop-entry.listing.entries.items w.add.new.self.entries.items
            c.loop-entry-test.true c.entry-item.is c.loop-entry.invariant.0 (sym c.is_true_entry.ensures
            ∙ w.if-is_true_entry.true) w.in_ok-add.ensures.entries,
        w.in_ok-add.ensures.seen,
      )
      | else-is_true_entry w ↦ rw w.listing-is (
        first_entries-left p c.as_slice-entry-items.result.now c.loop-entry.entry-index c.entry-item.result
            c.loop-entry.listing.entries.items c.loop-entry.listing.entries.items
            c.loop-entry-test.true c.entry-item.is c.loop-entry.invariant.0 (sym c.is_true_entry.ensures
            ∙ w.if-is_true_entry.false),
        c.loop-entry.invariant.1,
      )
    ]
