use Rattle.std.proofs.Common.{◌≡◌, ℕ, length, sym, ap, ◌∙◌, subst, rules}
use Rattle.std.specs.List.{range_with_len, IsAllAdjacentAnswer}
use Rattle.std.specs.List.Sorted.{IsPermutation}
use Rattle.std.proofs.lemmas.Fn.{always_returns_same}
use Rattle.std.proofs.lemmas.List.FromFn.{length-range_with_len}
use Rattle.std.proofs.lemmas.List.Sorted.{length_permutation, IsPermutation-trans}
use Rattle.elem_store.proofs.SortedPlaces.{is_before, rising-at, within-moved}
use Rattle.elem_store.proofs.sorting.places_by_id.Goals as goal

pub returns-then-is_sorted_by : goal.returns-then-is_sorted_by
returns-then-is_sorted_by c =
    let elements = c.args.elements.now.items in
    let places = c.sort_by.new.self.items in
    let moved : IsPermutation (range_with_len 0 (length elements)) places =
    subst (λ given. IsPermutation given places) (c.in_ok-places.ensures ∙ ap (range_with_len 0) c.len.ensures)
    (IsPermutation-trans _ _ _ c.sort_by_cached_key.ensures.permutation c.sort_by.ensures.permutation) in
    let within = within-moved (length elements) places moved in
    record {
      within = within;
      full = length_permutation _ _ moved ∙ length-range_with_len 0 (length elements);
      ordered = rising-at elements places within (rw (← c.deref.ensures.value)
          (subst (IsAllAdjacentAnswer (λ place next b. b ≡ is_before elements place next) c.deref.result.now)
          c.if-is_sorted_by.true
          (c.is_sorted_by.ensures.cases (is_before elements) (always_returns_same _ _ _ (λ a r f called. (search rules, search rules))))));
    }
