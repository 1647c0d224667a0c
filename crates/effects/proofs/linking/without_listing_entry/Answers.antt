use Rattle.std.proofs.Common.{not, filter, rules, ap, ◌∙◌}
use Rattle.std.proofs.lemmas.Fn.{filter_same}
use Rattle.elem.specs.Listings.{same_listing_entry}
use Rattle.effects.proofs.linking.without_listing_entry.Goals as goal

pub returns : goal.returns
returns c =
    c.from_vec.ensures
    ∙ filter_same _ (λ other. not (same_listing_entry c.args.entry.now other)) _ (λ x b f' k. search rules) _ _
    c.retain.ensures.filtered
    ∙ ap (filter (λ other. not (same_listing_entry c.args.entry.now other))) (c.into_vec-new.ensures
    ∙ c.in_ok-try_clone_with.ensures)
