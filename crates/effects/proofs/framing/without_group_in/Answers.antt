use Rattle.std.proofs.Common.{not, filter, bytes_eq, rules, ap, ◌∙◌}
use Rattle.std.proofs.lemmas.Fn.{filter_same}
use Rattle.effects.proofs.framing.without_group_in.Goals as goal

pub returns : goal.returns
returns c =
    c.from_vec.ensures
    ∙ filter_same _ (λ other. not (bytes_eq c.args.group.now other)) _ (λ x b f' k. search rules) _ _
    c.retain.ensures.filtered
    ∙ ap (filter (λ other. not (bytes_eq c.args.group.now other))) (c.into_vec-new.ensures
    ∙ c.in_ok-try_clone_with.ensures)
