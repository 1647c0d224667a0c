use Rattle.std.proofs.Common.{◌-◌, filter, take, drop, sym, ap, subst, ◌∙◌}
use Rattle.std.specs.List.Sorted.{IsNonDecreasing}
use Rattle.links.specs.Tables.{is_under}
use Rattle.links.proofs.Sorting.{has_front, fronts-rise, front-sorted, front-between, front-under}
use Rattle.links.proofs.table.rows_under.Goals as goal

pub ends_of_front-start-requires : goal.ends_of_front-start-requires
ends_of_front-start-requires c =
    subst IsNonDecreasing (sym c.deref.ensures.value)
    (fronts-rise c.table.inside.fronts.items c.table.inside.rows.items c.table.invariant)

pub rows_among-requires : goal.rows_among-requires
rows_among-requires c =
    rw c.deref-2.ensures.value (front-sorted c.table.inside.fronts.items c.table.inside.rows.items c.table.invariant
    c.front.result _ _ (rw c.deref.ensures.value at c.ends_of_front-start.ensures.start)
    (rw c.deref.ensures.value at c.ends_of_front-start.ensures.end_))

pub returns : goal.returns
returns c =
    let fronts = c.table.inside.fronts.items in
    let rows = c.table.inside.rows.items in
    let key = c.of-key.result in
    let a = c.ends_of_front-start.result.0 in
    let b = c.ends_of_front-start.result.1 in
    c.rows_among.ensures ∙ ap (λ xs. filter (is_under key) (take (b - a) (drop a xs))) c.deref-2.ensures.value
    ∙ ap (filter (is_under key)) (front-between fronts rows c.table.invariant c.front.result a b
    (rw c.deref.ensures.value at c.ends_of_front-start.ensures.start)
    (rw c.deref.ensures.value at c.ends_of_front-start.ensures.end_))
    ∙ ap (λ n. filter (is_under key) (filter (has_front n) rows)) c.front.ensures ∙ front-under key rows
    ∙ ap (λ id. filter (is_under id) rows) c.of-key.ensures ∙ ap (filter (is_under c.args.id.now)) c.table.view_is
