-- The keys above the element are greater than its own.
use Rattle.std.proofs.Common.{None, Some, ◌+◌, drop, ap, ◌∙◌}
use Rattle.std.specs.Option.{option_copied}
use Rattle.frac_keys.specs.Rising.{ends_rise}
use Rattle.effects.specs.Placing.{first_key, others}
use Rattle.effects.proofs.PlacingLaws.{Rises-at, Rises-shown, first_key-rises}
use Rattle.effects.proofs.placing.gap_over.Goals as goal

pub returns-clause-rises : goal.returns-clause-rises
returns-clause-rises c =
    let es = c.args.elements.now in
    let except = option_copied c.args.except in
    let r = Rises-at None es c.args.i c.index-elements-i.result (Rises-shown es c.requires.keys) c.requires.within
    c.index-elements-i.is in
    ap (λ low. ends_rise low (option_copied c.first_key.result)) (c.index_of.ensures ∙ r.1)
    ∙ ap (ends_rise (Some r.0)) (c.first_key.ensures
    ∙ ap (λ rest. first_key (others except rest)) c.split_at.ensures.back)
    ∙ first_key-rises except (Some r.0) (drop (c.args.i + 1) es) r.2
