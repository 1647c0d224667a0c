-- The sort makes the names of the kept members rise.
use Rattle.std.proofs.Common.{bytes_eq, nat_cmp, is_lt, not, filter, rules, codes, subst, sym, ap, ◌∙◌, Bool, ◌≡◌}
use Rattle.std.specs.Cmp.Lexicographic.{slice_cmp, nat_list_cmp_total}
use Rattle.std.specs.List.Sorted.{IsSortedBy, IsPermutation}
use Rattle.std.proofs.lemmas.Fn.{filter_same}
use Rattle.std.proofs.lemmas.List.Sorted.{ranks_by, answers_always}
use Rattle.json_text.specs.Members.{pairs}
use Rattle.json_text.specs.declared.text.Member.{Member}
use Rattle.elem.specs.Forms.{find_in, AreOthers}
use Rattle.elem_read.proofs.Others.{kept, sorted-others}
use Rattle.elem_read.proofs.binding.further_members.Goals as goal

abbrev lower : Member → Member → Bool
lower a b = is_lt (slice_cmp nat_cmp a.name b.name)

pub returns : goal.returns
returns c =
    let ws = c.sort_by.new.self.items in
    let up : IsSortedBy lower ws =
    c.in_ok-sort_by.ensures.sorted lower (ranks_by nat_list_cmp_total (λ (m : Member). m.name))
    (answers_always _ _ _ (λ f a r g h. search rules)) in
    let left : c.retain.new.self.items ≡ kept (bytes_eq (codes "elementId")) c.args.members =
    filter_same _ (λ (m : Member). not (bytes_eq (codes "elementId") m.name)) _ (λ x b f' k. search rules) _ _
    c.retain.ensures.filtered
    ∙ ap (filter (λ (m : Member). not (bytes_eq (codes "elementId") m.name))) c.into_vec-rest.ensures in
    let moved = subst (λ us. IsPermutation us ws) left c.in_ok-sort_by.ensures.permutation in
    subst (AreOthers (bytes_eq (codes "elementId")) (find_in (pairs c.args.members))) (sym c.from_vec.ensures)
    (sorted-others (bytes_eq (codes "elementId")) c.args.members ws c.requires moved up)
