use Rattle.std.proofs.Common.{map, ap, sym, ◌∙◌, subst}
use Rattle.frames_groups.specs.Groups.{without_groups, groups_settled, HaveDistinctGroups}
use Rattle.frames_groups.proofs.GroupLaws.{HaveDistinctGroups-settled, groups_settled-settled, groups_settled-others}
use Rattle.frames_groups.proofs.groups.settle_groups.Goals as goal

pub returns-clause-exact : goal.returns-clause-exact
returns-clause-exact c =
    c.from_vec.ensures ∙ c.in_ok-settle_each.ensures ∙ ap groups_settled c.into_vec-elements.ensures

pub returns-clause-distinct : goal.returns-clause-distinct
returns-clause-distinct c =
    subst HaveDistinctGroups (sym (returns-clause-exact c)) (HaveDistinctGroups-settled c.args.list)

pub returns-clause-others : goal.returns-clause-others
returns-clause-others c = ap (map without_groups) (returns-clause-exact c) ∙ groups_settled-others c.args.list

pub returns-clause-again : goal.returns-clause-again
returns-clause-again c =
    ap groups_settled (returns-clause-exact c) ∙ groups_settled-settled c.args.list ∙ sym (returns-clause-exact c)
