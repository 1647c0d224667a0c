use Rattle.std.proofs.Common.{◌&&◌, not, ap, ◌∙◌}
use Rattle.links.specs.Rows.{has_row, is_namer, rows_at, LinkRows}
use Rattle.links.proofs.RowSweep.{has-swept}
use Rattle.links.proofs.link_table.LinkTable.take_out_namer.Goals as goal

pub returns-clause-rows : goal.returns-clause-rows
returns-clause-rows c row =
    ap (λ rows. has_row rows row) c.take_out_namer.ensures.rows
    ∙ has-swept c.args.id.now (rows_at c.self.inside.named.items c.self.inside.namers.items) row
    ∙ ap (λ (t : LinkRows). has_row t.rows row && not (is_namer c.args.id.now row)) c.self.view_is
