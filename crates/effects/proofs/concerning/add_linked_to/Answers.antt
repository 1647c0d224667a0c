-- The namers are added, and then what the element names.
use Rattle.std.proofs.Common.{◌∙◌}
use Rattle.std.proofs.lemmas.Bool.{or_right}
use Rattle.std.proofs.lemmas.Result.{on_ok_weaker}
use Rattle.effects.proofs.ConcerningLaws.{linked-one, namers-added, on_ok_both}
use Rattle.effects.proofs.concerning.add_linked_to.Goals as goal

pub returns-clause-kept : goal.returns-clause-kept
returns-clause-kept c =
    on_ok_weaker c.add_named_by.result (λ kept id there. kept id (c.in_ok-add_all.ensures id ∙ or_right _ _ there))
    c.add_named_by.ensures.kept

pub returns-clause-linked : goal.returns-clause-linked
returns-clause-linked c =
    let lookup = c.args.lookup.now in
    let namers = namers-added lookup c.requires c.args.id.now c.namers.result.now c.args.all.now c.add_all.new.ids
    c.namers.ensures.exact c.in_ok-add_all.ensures in
    on_ok_both c.add_named_by.result
    (λ kept named. linked-one lookup.store.now.elements lookup.shown.now c.args.id.now c.add_all.new.ids
    c.add_named_by.new.all namers kept named)
    c.add_named_by.ensures.kept c.add_named_by.ensures.named
