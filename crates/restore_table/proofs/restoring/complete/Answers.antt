-- The members are sorted by their names.
use Rattle.std.proofs.Common.{rules, Bool, bytes_eq, is_lt, subst}
use Rattle.std.specs.Cmp.Lexicographic.{slice_cmp, nat_list_cmp_total}
use Rattle.std.specs.List.{IsDistinct}
use Rattle.std.specs.Ordering.{nat_cmp}
use Rattle.std.proofs.lemmas.List.Sorted.{ranks_by, answers_always}
use Rattle.json_text.specs.declared.text.Member.{Member}
use Rattle.scene_json.proofs.CallerLemmas.{rising_from_sort, names-pairs}
use Rattle.restore_table.proofs.restoring.complete.Goals as goal

abbrev comes_before : Member → Member → Bool
comes_before a b = is_lt (slice_cmp nat_cmp a.name b.name)

pub returns : goal.returns
returns c =
    let ms = c.sort_by.new.self.items in
    let sorted = c.in_ok-sort_by.ensures.sorted comes_before (ranks_by nat_list_cmp_total (λ (m : Member). m.name))
    (answers_always _ _ _ (λ f a r g h. search rules)) in
    record {
      ordered = ms;
      moved = c.in_ok-sort_by.ensures.permutation;
      rise = λ apart. rising_from_sort ms sorted (subst (IsDistinct bytes_eq) (names-pairs ms) apart);
      made = c.in_ok-fill_up.ensures;
    }
