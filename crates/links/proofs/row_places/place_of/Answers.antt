use Rattle.std.proofs.Common.{◌-◌, [], take, drop}
use Rattle.std.specs.Cmp.Lexicographic.{nat_list_cmp_total}
use Rattle.std.proofs.lemmas.List.Sorted.{searchable_from_sorted}
use Rattle.links.proofs.RowPlaces.{named-sorted, among-sorted, found-at, gap-at}
use Rattle.links.proofs.row_places.place_of.Goals as goal

pub ends_of-start-requires : goal.ends_of-start-requires
ends_of-start-requires c = named-sorted c.args.named.now.items c.args.namers.now.items c.requires

pub returns-in-Ok-clause-found : goal.returns-in-Ok-clause-found
returns-in-Ok-clause-found c =
    found-at c.args.named.now.items c.args.namers.now.items c.requires c.args.row.now c.ends_of-start.result.0
    c.ends_of-start.result.1 c.ends_of-start.ensures
    c.in-Ok.i (rw c.deref.ensures.value at c.in-Ok.ensures.bound) (rw c.deref.ensures.value at (c.in-Ok.ensures.ok []))

pub returns-in-Err-clause-absent : goal.returns-in-Err-clause-absent
returns-in-Err-clause-absent c =
    gap-at c.args.named.now.items c.args.namers.now.items c.requires c.args.row.now c.ends_of-start.result.0
    c.ends_of-start.result.1 c.ends_of-start.ensures
    c.in-Err.i (rw c.deref.ensures.value at c.in-Err.ensures.bound)
    ((rw c.deref.ensures.value at c.in-Err.ensures.position)
    (searchable_from_sorted nat_list_cmp_total (λ x. x)
    (take (c.ends_of-start.result.1 - c.ends_of-start.result.0)
    (drop c.ends_of-start.result.0 c.args.namers.now.items)) c.args.row.now.namer
    (among-sorted c.args.named.now.items c.args.namers.now.items c.requires c.args.row.now c.ends_of-start.result.0
    c.ends_of-start.result.1 c.ends_of-start.ensures)))
