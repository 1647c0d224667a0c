use Rattle.std.proofs.Common.{sym, ◌∙◌}
use Rattle.library.specs.inner.Filed.{items_in}
use Rattle.library.proofs.BestLaws.{HasPut-not}
use Rattle.library.proofs.FiledLaws.{filed-put, put-known, put-new}
use Rattle.library.proofs.shelf.put_among.Goals as goal

pub returns-in_ok-add-in-Ok-None-clause-after : goal.returns-in_ok-add-in-Ok-None-clause-after
returns-in_ok-add-in-Ok-None-clause-after c =
    filed-put c.args.items.now.entries c.args.item c.requires.under c.add.new.items.entries c.add.ensures.filed
    (put-new c.args.items.now.entries c.args.item c.requires.under c.in-Ok-None.field-0 c.in-Ok-None.field-0-is
    c.in-Ok-None.ensures.better)
    c.in_ok-add-in-Ok-None.ensures.after

pub returns-in_ok-add-in-Ok-None-clause-put : goal.returns-in_ok-add-in-Ok-None-clause-put
returns-in_ok-add-in-Ok-None-clause-put c =
    sym (put-new c.args.items.now.entries c.args.item c.requires.under c.in-Ok-None.field-0 c.in-Ok-None.field-0-is
    c.in-Ok-None.ensures.better)

pub returns-in-Ok-Some-true-clause-after : goal.returns-in-Ok-Some-true-clause-after
returns-in-Ok-Some-true-clause-after c =
    let w = c.in-Ok-Some-true in
    filed-put c.args.items.now.entries c.args.item c.requires.under c.replace.new.items.entries c.replace.ensures.filed
    (put-known c.args.items.now.entries c.args.item c.requires.under w.field-0 w.field-0-0 w.field-0-is w.ensures.better
    ∙ w.field-0-0-test)
    c.replace.ensures.after

pub returns-in-Ok-Some-true-clause-put : goal.returns-in-Ok-Some-true-clause-put
returns-in-Ok-Some-true-clause-put c =
    let w = c.in-Ok-Some-true in
    sym (put-known c.args.items.now.entries c.args.item c.requires.under w.field-0 w.field-0-0 w.field-0-is
    w.ensures.better ∙ w.field-0-0-test)

pub returns-in-Ok-Some-false-clause-after : goal.returns-in-Ok-Some-false-clause-after
returns-in-Ok-Some-false-clause-after c =
    let w = c.in-Ok-Some-false in
    HasPut-not (items_in c.args.items.now.entries) c.args.item c.requires.rise
    (put-known c.args.items.now.entries c.args.item c.requires.under w.field-0 w.field-0-0 w.field-0-is w.ensures.better
    ∙ w.field-0-0-test)

pub returns-in-Ok-Some-false-clause-put : goal.returns-in-Ok-Some-false-clause-put
returns-in-Ok-Some-false-clause-put c =
    let w = c.in-Ok-Some-false in
    sym (put-known c.args.items.now.entries c.args.item c.requires.under w.field-0 w.field-0-0 w.field-0-is
    w.ensures.better ∙ w.field-0-0-test)
