-- The comparisons along the elements lead a search to the id, or to the gap for it.
use Rattle.std.proofs.Common.{rules, length}
use Rattle.std.specs.List.Sorted.{IsBinarySearchResult, IsSearchInRange}
use Rattle.std.proofs.lemmas.Fn.{always_returns_same}
use Rattle.kept_view.proofs.Searched.{order_to, searched-found, searched-gap}
use Rattle.kept_view.proofs.places.place_of.Goals as goal

in_range : (c : goal.After-binary_search_by)
    → IsSearchInRange c.binary_search_by.result (length c.args.elements.now.items)
in_range c = rw c.deref.ensures.value at c.binary_search_by.ensures.bound

is_result : (c : goal.After-binary_search_by)
    → IsBinarySearchResult (order_to c.args.id.now) c.args.elements.now.items c.binary_search_by.result
is_result c =
    let by_id = c.binary_search_by.ensures.position (order_to c.args.id.now)
    (always_returns_same _ _ _ (λ a r f called. (search rules, search rules))) in
    rw c.deref.ensures.value at by_id

pub returns-clause-found : goal.returns-clause-found
returns-clause-found c = searched-found c.args.elements.now.items c.args.id.now _ (in_range c) (is_result c)

pub returns-clause-absent : goal.returns-clause-absent
returns-clause-absent c rising =
    searched-gap c.args.elements.now.items c.args.id.now _ (in_range c) (is_result c) rising
