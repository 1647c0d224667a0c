use Rattle.std.proofs.Common.{◌≡◌, Bor, Option, Some, None, IfSome, sym, ◌∙◌}
use Rattle.std.specs.Option.{option_copied}
use Rattle.elem.specs.ElementValue.{ElementValue}
use Rattle.effects.proofs.FindingLaws.{at-place, seen-distinct}
use Rattle.effects.proofs.finding.found_element.Goals as goal

of-copied : (r : Option (Bor ElementValue)) (o : Option ElementValue) → option_copied r ≡ o
    → IfSome r (λ e. o ≡ Some e.now)
of-copied None o is = tt
of-copied (Some e) o is = sym is

pub returns : goal.returns
returns c =
    of-copied c.element_at.result _
    (c.element_at.ensures ∙ at-place c.args.lookup.now.shown.now c.in_ok-i.i c.args.id.now
    (seen-distinct c.args.lookup.now c.requires) c.in_ok-i.ensures)
