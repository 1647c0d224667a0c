use Rattle.std.proofs.Common.{sym, ap, ◌∙◌}
use Rattle.std.proofs.lemmas.List.Sorted.{list_any-IsPermutation}
use Rattle.links.specs.Rows.{has_row, same_row}
use Rattle.kept_view.proofs.drawing.in_order.Goals as goal

pub returns : goal.returns
returns c row =
    ap (λ rows. has_row rows row) c.from_vec.ensures
    ∙ sym (list_any-IsPermutation (same_row row) c.into_vec-rows.result.items c.sort_by.new.self.items
    c.sort_by.ensures.permutation)
    ∙ ap (λ rows. has_row rows row) c.into_vec-rows.ensures
