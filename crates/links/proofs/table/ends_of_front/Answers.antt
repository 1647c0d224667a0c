use Rattle.std.proofs.Common.{◌≡◌, ◌<◌, ◌≤◌, ◌≢◌, true, false, ltb, leb, subst, ◌∙◌, rules, arith}
use Rattle.std.specs.List.Sorted.{IsPartitionPoint}
use Rattle.std.proofs.lemmas.List.{get_or_default}
use Rattle.std.proofs.lemmas.List.Sorted.{IsPartitionPoint-from_clause, IsPartitionedBy-leb, IsPartitionedBy-ltb}
use Rattle.links.proofs.Sorting.{start-point, end-point, points-ordered, absent-front}
use Rattle.links.proofs.table.ends_of_front.Goals as goal
use Rattle.links.proofs.table.ends_of_front.Goals.{After-partition_point-start}

start : (c : After-partition_point-start)
    → IsPartitionPoint (λ n. ltb n c.args.front ≡ true) (λ n. ltb n c.args.front ≡ false) c.args.fronts.now
    c.partition_point-start.result
start c =
    IsPartitionPoint-from_clause (λ n. ltb n c.args.front) c.args.fronts.now _
    c.partition_point-start.ensures.partitioned
    (IsPartitionedBy-ltb (λ n. n) c.args.fronts.now c.args.front c.requires)
    (λ a r f called. (search rules, search rules))

started : (c : After-partition_point-start)
    → IsPartitionPoint (λ other. other < c.args.front) (λ other. c.args.front ≤ other) c.args.fronts.now
    c.partition_point-start.result
started c = start-point c.args.fronts.now c.args.front _ (start c)

end' : (c : goal.After-partition_point-end)
    → IsPartitionPoint (λ n. leb n c.args.front ≡ true) (λ n. leb n c.args.front ≡ false) c.args.fronts.now
    c.partition_point-end.result
end' c =
    IsPartitionPoint-from_clause (λ n. leb n c.args.front) c.args.fronts.now _
    c.partition_point-end.ensures.partitioned
    (IsPartitionedBy-leb (λ n. n) c.args.fronts.now c.args.front c.requires)
    (λ a r f called. (search rules, search rules))

pub returns-in-Some-clause-ordered : goal.returns-in-Some-clause-ordered
returns-in-Some-clause-ordered c =
    points-ordered c.args.fronts.now c.args.front _ _ c.partition_point-start.ensures.bound
    (start (goal.at.returns-in-Some-clause-ordered c).After-partition_point-start) (end' c)

pub returns-in-Some-clause-start : goal.returns-in-Some-clause-start
returns-in-Some-clause-start c = started (goal.at.returns-in-Some-clause-start c).After-partition_point-start

pub returns-in-Some-clause-end_ : goal.returns-in-Some-clause-end_
returns-in-Some-clause-end_ c = end-point c.args.fronts.now c.args.front _ (end' c)

pub returns-in_default-clause-start : goal.returns-in_default-clause-start
returns-in_default-clause-start c = started (goal.at.returns-in_default-clause-start c).After-partition_point-start

pub returns-in_default-clause-end_ : goal.returns-in_default-clause-end_
returns-in_default-clause-end_ c =
    let fronts = c.args.fronts.now in
    let i = c.partition_point-start.result in
    let other = c.in-Some.other.now in
    absent-front fronts c.args.front i c.requires
    (started (goal.at.returns-in_default-clause-end_ c).After-partition_point-start)
    (λ d m. subst (λ n. n ≢ c.args.front) (c.in-Some.ensures.lookup.1 ∙ get_or_default fronts i other d m)
    c.if-other-front.false)

pub returns-in_default-2-clause-start : goal.returns-in_default-2-clause-start
returns-in_default-2-clause-start c = started (goal.at.returns-in_default-2-clause-start c).After-partition_point-start

pub returns-in_default-2-clause-end_ : goal.returns-in_default-2-clause-end_
returns-in_default-2-clause-end_ c =
    let past = rw c.in_default.is at c.get.ensures.lookup in
    absent-front c.args.fronts.now c.args.front _ c.requires
    (started (goal.at.returns-in_default-2-clause-end_ c).After-partition_point-start)
    (λ d m. absurd (omega (arith, m, past.3)))
