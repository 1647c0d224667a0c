use Rattle.std.proofs.Common.{◌≡◌, ◌≢◌, IfOk, sym, ap, ◌∙◌, subst}
use Rattle.std.specs.List.{AllPairs, filter_map, range_with_len, slice_get}
use Rattle.room_disk.proofs.Indices.{indices-apart, all-in-order}
use Rattle.room_disk.proofs.resuming.in_order.Goals as goal

pub into_elements_at-requires : goal.into_elements_at-requires
into_elements_at-requires c =
    subst (AllPairs (λ i j. i ≢ j)) (sym (c.deref.ensures.value ∙ c.in_ok-indices.ensures)) (indices-apart c.len.result)

pub returns-clause-exact : goal.returns-clause-exact
returns-clause-exact c =
    let stored = c.args.store.elements in
    let all : filter_map (slice_get stored) c.deref.result.now ≡ stored =
    ap (filter_map (slice_get stored)) (c.deref.ensures.value
    ∙ (c.in_ok-indices.ensures ∙ ap (range_with_len 0) c.len.ensures.exact)) ∙ all-in-order stored in
    subst (λ es. IfOk c.into_elements_at.result (λ moved. moved.items ≡ es)) all c.into_elements_at.ensures
