use Rattle.std.proofs.Common.{get_or, ap, ◌∙◌, arith}
use Rattle.links.specs.Rows.{rows_of}
use Rattle.kept_view.proofs.RowLaws.{rows-more}
use Rattle.kept_view.proofs.replacing.rows_of_all.Goals as goal

pub loop-e-preserved : goal.loop-e-preserved
loop-e-preserved c =
    rows-more c.args.elements.now.items c.loop-e.e-index c.e-item.result (omega arith) (c.e-item.is
    ∙ ap (λ x. get_or x c.loop-e.e-index c.e-item.result) c.deref-e-items.ensures.value) c.loop-e.rows.items
    c.into_vec-more.result.items c.append.new.self.items c.loop-e.invariant
    (c.into_vec-more.ensures ∙ c.in_ok-rows_of.ensures.exact ∙ ap rows_of c.get.ensures) c.in_ok-append.ensures.items
