use Rattle.std.proofs.Common.{sym, ◌∙◌}
use Rattle.effects.proofs.FindingLaws.{at-place, seen-distinct}
use Rattle.effects.proofs.finding.shown_element.Goals as goal

pub returns-in-Some : goal.returns-in-Some
returns-in-Some c =
    c.element_at.ensures ∙ at-place c.args.lookup.now.shown.now c.in-Some.i c.args.id.now
    (seen-distinct c.args.lookup.now c.requires) c.in-Some.ensures.found

pub returns-in-None : goal.returns-in-None
returns-in-None c = sym c.in-None.ensures.absent
