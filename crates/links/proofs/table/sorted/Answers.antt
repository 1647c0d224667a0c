use Rattle.std.proofs.Common.{rules}
use Rattle.std.proofs.lemmas.List.Sorted.{answers_always}
use Rattle.links.specs.inner.Tables.{row_less}
use Rattle.links.proofs.Sorting.{row_less-order, kept-under}
use Rattle.links.proofs.table.sorted.Goals as goal

pub invariant_of-result : goal.invariant_of-result
invariant_of-result c = record {
  ordered = c.in_ok-sort_by.ensures.sorted row_less row_less-order (answers_always _ _ _ (λ f a r g k. search rules));
  beside = c.in_ok-fronts.ensures;
}

pub returns : goal.returns
returns c =
    kept-under _ _ (c.in_ok-sort_by.ensures.stable row_less row_less-order
    (answers_always _ _ _ (λ f a r g k. search rules)))
