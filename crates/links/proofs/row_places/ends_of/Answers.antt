use Rattle.std.proofs.Common.{◌≡◌, true, false, rules}
use Rattle.std.specs.List.Sorted.{IsPartitionPoint}
use Rattle.std.proofs.lemmas.List.Sorted.{IsPartitionPoint-from_clause}
use Rattle.links.proofs.RowPlaces.{AreEndsOf-from}
use Rattle.links.proofs.Sorting.{is_less, is_not_greater, less-partitioned, not_greater-partitioned}
use Rattle.links.proofs.row_places.ends_of.Goals as goal

start : (c : goal.After-partition_point-end)
    → IsPartitionPoint (λ id. is_less c.args.id.now id ≡ true) (λ id. is_less c.args.id.now id ≡ false)
    c.args.ids.now.items c.partition_point-start.result
start c =
    let sorted = less-partitioned (λ x. x) c.args.ids.now.items c.args.id.now c.requires in
    IsPartitionPoint-from_clause (is_less c.args.id.now) c.args.ids.now.items _
    (rw c.deref.ensures.value at c.partition_point-start.ensures.partitioned) sorted
    (λ a r f called. (search rules, search rules))

end' : (c : goal.After-partition_point-end)
    → IsPartitionPoint (λ id. is_not_greater c.args.id.now id ≡ true) (λ id. is_not_greater c.args.id.now id ≡ false)
    c.args.ids.now.items c.partition_point-end.result
end' c =
    let sorted = not_greater-partitioned (λ x. x) c.args.ids.now.items c.args.id.now c.requires in
    IsPartitionPoint-from_clause (is_not_greater c.args.id.now) c.args.ids.now.items _
    (rw c.deref-2.ensures.value at c.partition_point-end.ensures.partitioned) sorted
    (λ a r f called. (search rules, search rules))

pub returns : goal.returns
returns c =
    AreEndsOf-from c.args.ids.now.items c.args.id.now _ _
    (rw c.deref.ensures.value at c.partition_point-start.ensures.bound)
    (rw c.deref-2.ensures.value at c.partition_point-end.ensures.bound) (start c) (end' c)
