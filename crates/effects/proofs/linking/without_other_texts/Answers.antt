use Rattle.std.proofs.Common.{not, ◌||◌, filter, bytes_eq, rules, ap, ◌∙◌}
use Rattle.std.proofs.lemmas.Fn.{filter_same}
use Rattle.elem.specs.declared.parts.BoundRef.{BoundRef}
use Rattle.links.specs.Texts.{is_for_text}
use Rattle.effects.proofs.linking.without_other_texts.Goals as goal

pub returns : goal.returns
returns c =
    c.from_vec.ensures
    ∙ filter_same _ (λ (other : BoundRef). not (is_for_text other.role) || bytes_eq c.args.text.now other.id) _
    (λ x b f' k. search rules) _ _ c.retain.ensures.filtered
    ∙ ap (filter (λ (other : BoundRef). not (is_for_text other.role) || bytes_eq c.args.text.now other.id))
    (c.into_vec-new.ensures ∙ c.in_ok-try_clone_with.ensures)
