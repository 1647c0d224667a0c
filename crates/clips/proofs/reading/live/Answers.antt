use Rattle.std.proofs.Common.{not, filter, rules, ap, ◌∙◌}
use Rattle.std.proofs.lemmas.Fn.{filter_same}
use Rattle.clips.specs.declared.placed.Placed.{Placed}
use Rattle.clips.proofs.reading.live.Goals as goal

pub returns : goal.returns
returns c =
    c.from_vec.ensures
    ∙ filter_same _ (λ (p : Placed). not p.element.deleted) _ (λ x b f' k. search rules) _ _ c.retain.ensures.filtered
    ∙ ap (filter (λ (p : Placed). not p.element.deleted)) c.into_vec-placed.ensures
