use Rattle.std.proofs.Common.{◌≡◌, true, false, sym, ap, subst, ◌∙◌, rules, arith}
use Rattle.std.specs.List.Sorted.{IsPartitionPoint}
use Rattle.std.specs.Ordering.{is_le}
use Rattle.std.proofs.lemmas.List.{get_or_default}
use Rattle.std.proofs.lemmas.List.Sorted.{IsPartitionPoint-from_clause}
use Rattle.links.specs.declared.table.Row.{Row}
use Rattle.links.proofs.Sorting.{is_below, is_up_to, below-partitioned, up_to-partitioned, absent-point, rows-between, rows-ordered}
use Rattle.links.proofs.table.ends_under.Goals as goal
use Rattle.links.proofs.table.ends_under.Goals.{After-partition_point-start}

start : (c : After-partition_point-start)
    → IsPartitionPoint (λ row. is_below c.args.key.now row ≡ true) (λ row. is_below c.args.key.now row ≡ false)
    c.args.rows.now c.partition_point-start.result
start c =
    IsPartitionPoint-from_clause (is_below c.args.key.now) c.args.rows.now _
    c.partition_point-start.ensures.partitioned (below-partitioned c.args.rows.now c.args.key.now c.requires)
    (λ a r f called. (search rules, search rules))

end' : (c : goal.After-partition_point-end)
    → IsPartitionPoint (λ row. is_up_to c.args.key.now row ≡ true) (λ row. is_up_to c.args.key.now row ≡ false)
    c.args.rows.now c.partition_point-end.result
end' c =
    IsPartitionPoint-from_clause (is_up_to c.args.key.now) c.args.rows.now _
    c.partition_point-end.ensures.partitioned (up_to-partitioned c.args.rows.now c.args.key.now c.requires)
    (λ a r f called. (search rules, search rules))

pub returns-in-Some-clause-ordered : goal.returns-in-Some-clause-ordered
returns-in-Some-clause-ordered c =
    rows-ordered c.args.rows.now c.args.key.now _ _
    (start (goal.at.returns-in-Some-clause-ordered c).After-partition_point-start) (end' c)
    c.partition_point-start.ensures.bound

pub returns-in-Some-clause-among : goal.returns-in-Some-clause-among
returns-in-Some-clause-among c =
    rows-between c.args.rows.now c.args.key.now _ _
    (start (goal.at.returns-in-Some-clause-among c).After-partition_point-start) (end' c)

pub returns-in_default-clause-among : goal.returns-in_default-clause-among
returns-in_default-clause-among c =
    let rows = c.args.rows.now in
    let key = c.args.key.now in
    let a = c.partition_point-start.result in
    let row = c.in-Some.row.now in
    let first = start (goal.at.returns-in_default-clause-among c).After-partition_point-start in
    let greater : is_up_to key row ≡ false =
    ap is_le (sym c.order.ensures) ∙ (sym c.is_le.ensures ∙ c.if-is_le.false) in
    rows-between rows key a a first
    (absent-point rows key a c.requires first (λ d m. subst (λ (r : Row). is_up_to key r ≡ false)
    (c.in-Some.ensures.lookup.1 ∙ get_or_default rows a row d m) greater))

pub returns-in_default-2-clause-among : goal.returns-in_default-2-clause-among
returns-in_default-2-clause-among c =
    let rows = c.args.rows.now in
    let key = c.args.key.now in
    let a = c.partition_point-start.result in
    let past = rw c.in_default.is at c.get.ensures.lookup in
    let first = start (goal.at.returns-in_default-2-clause-among c).After-partition_point-start in
    rows-between rows key a a first
    (absent-point rows key a c.requires first (λ d m. absurd (omega (arith, m, past.3))))
