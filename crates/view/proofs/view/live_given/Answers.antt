use Rattle.std.proofs.Common.{ap, ◌∙◌, rules}
use Rattle.std.specs.Prelude.{filter}
use Rattle.std.proofs.lemmas.Fn.{filter_same}
use Rattle.view.specs.Shown.{is_live}
use Rattle.view.proofs.view.live_given.Goals as goal

pub returns : goal.returns
returns c = filter_same _ is_live _ (λ x b f' k. search rules) _ _ c.retain.ensures.filtered
    ∙ ap (filter is_live) c.into_given-elements.ensures
