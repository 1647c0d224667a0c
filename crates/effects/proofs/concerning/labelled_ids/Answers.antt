-- What isn't among the ids isn't one of the label's own.
use Rattle.std.proofs.Common.{◌||◌, bytes_eq, sym, ap, ◌∙◌}
use Rattle.std.proofs.lemmas.Bool.{or_parts}
use Rattle.links.specs.Names.{is_id}
use Rattle.elem_store.specs.Updates.{is_among}
use Rattle.effects.proofs.ConcerningLaws.{has, namers-added}
use Rattle.effects.proofs.concerning.labelled_ids.Goals as goal

pub returns-clause-own : goal.returns-clause-own
returns-clause-own c = λ other out.
    let label = c.args.label.now in
    let mid = or_parts (is_among c.namers.result.now other) (has c.add_name.new.ids other)
    (sym (c.in_ok-add_all.ensures other) ∙ out) in
    ap (λ b. is_id other label.old || b)
    (ap (λ b. bytes_eq other label.container || b) (sym (c.in_ok-ids.ensures other))
    ∙ sym (c.in_ok-add.ensures other))
    ∙ sym (c.in_ok-add_name.ensures other)
    ∙ mid.1

pub returns-clause-namers : goal.returns-clause-namers
returns-clause-namers c =
    namers-added c.args.lookup.now c.requires c.args.label.now.container c.namers.result.now c.add_name.new.ids
    c.add_all.new.ids c.namers.ensures.exact c.in_ok-add_all.ensures
