use Rattle.std.proofs.Common.{arith, not, ◌&&◌, sym, ap, ◌∙◌}
use Rattle.links.specs.Rows.{has_row, same_row, rows_at, LinkRows}
use Rattle.links.proofs.RowEdits.{AreRows-remove, has-removed, has-absent, within-at}
use Rattle.links.proofs.link_table.LinkTable.take_out.Goals as goal

pub remove-requires : goal.remove-requires
remove-requires c = omega (
  arith,
  within-at c.self.inside.named.items c.self.inside.namers.items c.self.invariant
      c.args.row.now c.in-Ok.i c.in-Ok.ensures.found,
)

pub invariant_of-self : goal.invariant_of-self
invariant_of-self c =
    rw (c.remove.ensures.items, c.remove-in-Ok.ensures.items)
    (AreRows-remove c.self.inside.named.items c.self.inside.namers.items c.self.invariant c.in-Ok.i
    (within-at c.self.inside.named.items c.self.inside.namers.items c.self.invariant c.args.row.now c.in-Ok.i
    c.in-Ok.ensures.found))

pub returns-in-Ok-clause-rows : goal.returns-in-Ok-clause-rows
returns-in-Ok-clause-rows c =
    rw (c.remove.ensures.items, c.remove-in-Ok.ensures.items)
    (λ other. has-removed c.self.inside.named.items c.self.inside.namers.items c.self.invariant c.in-Ok.i c.args.row.now
    c.in-Ok.ensures.found other
    ∙ ap (λ (t : LinkRows). has_row t.rows other && not (same_row other c.args.row.now)) c.self.view_is)

pub returns-in-Err-clause-rows : goal.returns-in-Err-clause-rows
returns-in-Err-clause-rows c other =
    ap (λ (t : LinkRows). has_row t.rows other) (sym c.self.view_is)
    ∙ has-absent (rows_at c.self.inside.named.items c.self.inside.namers.items) c.args.row.now c.in-Err.field-0 other
    c.in-Err.ensures.absent
    ∙ ap (λ (t : LinkRows). has_row t.rows other && not (same_row other c.args.row.now)) c.self.view_is
