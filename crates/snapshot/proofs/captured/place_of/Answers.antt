-- The comparisons along the elements lead a search to the id, or to the gap for it.
use Rattle.std.proofs.Common.{rules, IfOk, IfErr}
use Rattle.std.proofs.lemmas.Fn.{always_returns_same}
use Rattle.elem_store.specs.Places.{IsAt, IsGapFor}
use Rattle.snapshot.proofs.CapturedLaws.{order_of, searched}
use Rattle.snapshot.proofs.captured.place_of.Goals as goal

ends : (c : goal.After-binary_search_by) → IfOk c.binary_search_by.result (IsAt c.args.elements.now.items c.args.id.now)
    × IfErr c.binary_search_by.result (IsGapFor c.args.elements.now.items c.args.id.now)
ends c =
    let facts = c.binary_search_by.ensures in
    let by_id = facts.position (order_of c.args.id.now)
    (always_returns_same _ _ _ (λ a r f called. (search rules, search rules))) in
    searched c.args.elements.now.items c.requires c.args.id.now _ (rw c.deref.ensures.value at facts.bound)
    (rw c.deref.ensures.value at by_id)

pub returns-clause-found : goal.returns-clause-found
returns-clause-found c = (ends c).0

pub returns-clause-absent : goal.returns-clause-absent
returns-clause-absent c = (ends c).1
