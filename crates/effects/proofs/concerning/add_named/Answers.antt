use Rattle.std.proofs.Common.{List, ◌||◌, arith, take_all, ap, ◌∙◌}
use Rattle.std.specs.List.{list_any}
use Rattle.links.specs.declared.rows.LinkRow.{LinkRow}
use Rattle.links.specs.Rows.{is_for}
use Rattle.effects.proofs.ConcerningLaws.{has, added-more}
use Rattle.effects.proofs.concerning.add_named.Goals as goal

pub loop-row-preserved : goal.loop-row-preserved
loop-row-preserved c = λ x.
    added-more LinkRow (is_for x) c.as_slice-row-items.result.now c.loop-row.row-index c.row-item.result
    (has c.args.ids.now x) (has c.loop-row.ids x) (has c.add.new.ids x)
    (omega arith) c.row-item.is (c.loop-row.invariant x) (c.in_ok-add.ensures x)

pub returns : goal.returns
returns c = λ x.
    c.loop-row.invariant x
    ∙ ap (λ (rs : List LinkRow). list_any (is_for x) rs || has c.args.ids.now x)
    (take_all c.loop-row.row-index c.as_slice-row-items.result.now (omega arith) ∙ c.as_slice-row-items.ensures)
    ∙ ap (λ b. b || has c.args.ids.now x) (c.in_ok-rows.ensures.named x)
