use Rattle.std.proofs.Common.{◌||◌, ◌&&◌, not, ap, ◌∙◌}
use Rattle.links.specs.declared.rows.LinkRow.{LinkRow}
use Rattle.links.specs.Rows.{has_row}
use Rattle.kept_view.proofs.RowLaws.{rows-made, or-none}
use Rattle.kept_view.proofs.drawing.table_of.Goals as goal

pub returns : goal.returns
returns c =
    rows-made c.args.live.now.items c.replace-2.new.self.rows c.requires
    (λ named namer.
    let row : LinkRow = record { named = named; namer = namer } in
    c.replace-2.ensures.rows row
    ∙ ap (λ rows. has_row c.in_ok-rows.rows row || (has_row rows row && not (has_row c.new.result row)))
    (c.in_ok-reserve.ensures.rows ∙ c.new-table.ensures)
    ∙ or-none (has_row c.in_ok-rows.rows row) ∙ (c.in_ok-rows.ensures row ∙ c.in_ok-rows_of_all.ensures named namer))
