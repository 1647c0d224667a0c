use Rattle.std.proofs.Common.{sym, ap, ◌∙◌, ◌||◌}
use Rattle.links.specs.Rows.{has_row, same_row, rows_at, LinkRows}
use Rattle.links.proofs.RowEdits.{AreRows-insert, has-inserted, in-named, in-namers, has-there}
use Rattle.links.proofs.link_table.LinkTable.put_in.Goals as goal

pub insert-requires-clause-place : goal.insert-requires-clause-place
insert-requires-clause-place c = in-named c.self.inside.named.items c.self.inside.namers.items c.self.invariant
    c.args.row c.in-Err.i c.in-Err.ensures.absent.in_range

pub insert-requires-in-Err-clause-place : goal.insert-requires-in-Err-clause-place
insert-requires-in-Err-clause-place c = in-namers c.self.inside.named.items c.self.inside.namers.items c.self.invariant
    c.args.row c.in-Err.i c.in-Err.ensures.absent.in_range

pub invariant_of-self : goal.invariant_of-self
invariant_of-self c = rw (c.insert.ensures.items, c.insert-in-Err.ensures.items)
    (AreRows-insert c.self.inside.named.items c.self.inside.namers.items c.self.invariant c.args.row c.in-Err.i
    c.in-Err.ensures.absent)

pub returns-in-Err-clause-rows : goal.returns-in-Err-clause-rows
returns-in-Err-clause-rows c =
    rw (c.insert.ensures.items, c.insert-in-Err.ensures.items)
    (λ other. has-inserted c.self.inside.named.items c.self.inside.namers.items c.self.invariant c.args.row c.in-Err.i
    other
    ∙ ap (λ (t : LinkRows). same_row other c.args.row || has_row t.rows other) c.self.view_is)

pub returns-in-Ok-clause-rows : goal.returns-in-Ok-clause-rows
returns-in-Ok-clause-rows c other =
    ap (λ (t : LinkRows). has_row t.rows other) (sym c.self.view_is)
    ∙ has-there (rows_at c.self.inside.named.items c.self.inside.namers.items) c.args.row c.in-Ok.field-0 other
    c.in-Ok.ensures.found
    ∙ ap (λ (t : LinkRows). same_row other c.args.row || has_row t.rows other) c.self.view_is
