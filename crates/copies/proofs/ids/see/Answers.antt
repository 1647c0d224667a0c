use Rattle.std.proofs.Common.{ap, ◌∙◌}
use Rattle.elem.specs.ElementValue.{ElementValue}
use Rattle.copies.proofs.SetsOfIds.{seen-more}
use Rattle.copies.proofs.ids.see.Goals as goal

pub returns-clause-seen : goal.returns-clause-seen
returns-clause-seen c = λ other.
    seen-more c.args.ids.now c.insert.new.self c.in_ok-id.id c.args.e.now.id other c.in_ok-insert.ensures.updates
    (c.in_ok-id.ensures ∙ ap (λ (d : ElementValue). d.id) c.e.view_is)
