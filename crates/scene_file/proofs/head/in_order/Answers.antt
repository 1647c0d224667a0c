use Rattle.std.proofs.Common.{List, rules, sym, subst}
use Rattle.std.specs.Cmp.Lexicographic.{nat_list_cmp_total}
use Rattle.std.proofs.lemmas.List.Sorted.{ranks_by, answers_always}
use Rattle.json_text.specs.Members.{pairs}
use Rattle.json_text.specs.Parts.{AreMembers}
use Rattle.json_text.specs.declared.text.Member.{Member}
use Rattle.scene_file.proofs.Ordered.{is_lower, AreOrdered, AreOrdered-from}
use Rattle.scene_file.proofs.head.in_order.Goals as goal

done : (c : goal.After-from_vec) → AreOrdered c.args.members c.from_vec.result
done c =
    let given = c.into_vec-members.ensures in
    let sorted = c.in_ok-sort_by.ensures.sorted is_lower (ranks_by nat_list_cmp_total (λ (m : Member). m.name))
    (answers_always _ _ _ (λ f a r g h. search rules)) in
    let are = subst (λ (ms : List Member). AreMembers 126 (pairs ms)) (sym given) c.requires in
    let all = AreOrdered-from c.into_vec-members.result.items c.sort_by.new.self.items are
    c.in_ok-sort_by.ensures.permutation sorted in
    subst (λ ms. AreOrdered ms c.from_vec.result) given
    (subst (AreOrdered c.into_vec-members.result.items) (sym c.from_vec.ensures) all)

pub returns-clause-ordered : goal.returns-clause-ordered
returns-clause-ordered c = (done c).rise

pub returns-clause-same : goal.returns-clause-same
returns-clause-same c = (done c).same

pub returns-clause-nest : goal.returns-clause-nest
returns-clause-nest c = (done c).nest
