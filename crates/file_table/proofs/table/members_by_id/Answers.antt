use Rattle.std.proofs.Common.{bytes_eq, nat_cmp, is_lt, rules, subst, Bool}
use Rattle.std.specs.Cmp.Lexicographic.{slice_cmp, nat_list_cmp_total}
use Rattle.std.specs.List.{IsDistinct}
use Rattle.std.specs.List.Sorted.{IsSortedBy, IsPermutation}
use Rattle.std.proofs.lemmas.List.Sorted.{ranks_by, answers_always, IsPermutation-map}
use Rattle.json_text.specs.Members.{pairs, pair_of}
use Rattle.json_text.specs.declared.text.Member.{Member}
use Rattle.scene_json.proofs.CallerLemmas.{distinct_moved, rising_from_sort, names-pairs}
use Rattle.file_table.proofs.ById.{moved-by_id}
use Rattle.file_table.proofs.table.members_by_id.Goals as goal

abbrev lower : Member → Member → Bool
lower a b = is_lt (slice_cmp nat_cmp a.name b.name)

pub returns : goal.returns
returns c =
    let us = c.in_ok-members.members.items in
    let ws = c.sort_by.new.self.items in
    let files = c.args.entries.now.entries in
    let up : IsSortedBy lower ws =
    c.in_ok-sort_by.ensures.sorted lower (ranks_by nat_list_cmp_total (λ (m : Member). m.name))
    (answers_always _ _ _ (λ f a r g h. search rules)) in
    let moved : IsPermutation files (pairs ws) =
    subst (λ x. IsPermutation x (pairs ws)) c.in_ok-members.ensures
    (IsPermutation-map pair_of us ws c.in_ok-sort_by.ensures.permutation) in
    let distinct = distinct_moved files (pairs ws) moved c.requires.distinct in
    moved-by_id files (pairs ws) c.requires.distinct moved
    (rising_from_sort ws up (subst (IsDistinct bytes_eq) (names-pairs ws) distinct))
