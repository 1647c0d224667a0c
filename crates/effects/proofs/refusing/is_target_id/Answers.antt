use Rattle.std.proofs.Common.{false, Option, sym, ap, ◌∙◌}
use Rattle.std.specs.Option.{option_copied, option_map_or}
use Rattle.elem.specs.ElementValue.{ElementValue}
use Rattle.links.specs.Names.{is_target}
use Rattle.effects.proofs.FindingLaws.{seen-distinct, target-found}
use Rattle.effects.proofs.refusing.is_target_id.Goals as goal

pub returns-in-Some : goal.returns-in-Some
returns-in-Some c =
    c.is_target.ensures
    ∙ ap (λ (o : Option ElementValue). option_map_or is_target o false) (sym (ap option_copied c.in-Some.is)
    ∙ c.shown_element.ensures)
    ∙ target-found c.args.lookup.now.shown.now c.args.id.now (seen-distinct c.args.lookup.now c.requires)

pub returns-in-None : goal.returns-in-None
returns-in-None c =
    ap (λ (o : Option ElementValue). option_map_or is_target o false) (sym (ap option_copied c.in-None.is)
    ∙ c.shown_element.ensures)
    ∙ target-found c.args.lookup.now.shown.now c.args.id.now (seen-distinct c.args.lookup.now c.requires)
