-- What is newer of an id goes before what is stored.
use Rattle.std.proofs.Common.{sym, ap, ◌∙◌}
use Rattle.std.specs.Option.{option_or}
use Rattle.elem_store.specs.Updates.{element_of}
use Rattle.snapshot.proofs.PutLaws.{all-each}
use Rattle.snapshot.proofs.carrying.stored_over.Goals as goal

pub returns-in-Some-clause-element : goal.returns-in-Some-clause-element
returns-in-Some-clause-element c =
    let stored = c.args.store.now.elements in
    sym (all-each c.args.newer.now.items stored c.args.id.now c.requires
    ∙ ap (λ o. option_or o (element_of stored c.args.id.now)) (sym c.in-Some.ensures))

pub returns-in-None-clause-element : goal.returns-in-None-clause-element
returns-in-None-clause-element c =
    let stored = c.args.store.now.elements in
    c.get-stored.ensures.element ∙ sym (all-each c.args.newer.now.items stored c.args.id.now c.requires
    ∙ ap (λ o. option_or o (element_of stored c.args.id.now)) (sym c.in-None.ensures))
