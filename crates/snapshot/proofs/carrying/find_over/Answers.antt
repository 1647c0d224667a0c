-- What the step has of an id goes before what is captured.
use Rattle.std.proofs.Common.{sym, ap, ◌∙◌}
use Rattle.std.specs.Option.{option_or}
use Rattle.elem_store.specs.Updates.{element_of}
use Rattle.snapshot.proofs.PutLaws.{all-each}
use Rattle.snapshot.proofs.carrying.find_over.Goals as goal

pub returns-in-Some : goal.returns-in-Some
returns-in-Some c =
    let captured = c.args.captured.now.items in
    sym (all-each c.args.step.now.items captured c.args.id.now c.requires.step
    ∙ ap (λ o. option_or o (element_of captured c.args.id.now)) (sym c.in-Some.ensures))

pub returns-in-None : goal.returns-in-None
returns-in-None c =
    let captured = c.args.captured.now.items in
    c.find-in-None.ensures ∙ sym (all-each c.args.step.now.items captured c.args.id.now c.requires.step
    ∙ ap (λ o. option_or o (element_of captured c.args.id.now)) (sym c.in-None.ensures))
