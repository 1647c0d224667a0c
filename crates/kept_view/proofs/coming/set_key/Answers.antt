use Rattle.std.proofs.Common.{set, ap, ◌∙◌}
use Rattle.elem.specs.ElementValue.{ElementValue}
use Rattle.kept_view.proofs.RekeyedLaws.{set-rekeyed}
use Rattle.kept_view.proofs.coming.set_key.Goals as goal

pub returns : goal.returns
returns c =
    c.replace.ensures.items ∙ ap (λ (x : ElementValue). set c.args.elements.now.items c.args.at x) c.in_ok-keyed.ensures
    ∙ set-rekeyed c.args.elements.now.items c.args.at c.index.result.now c.args.key c.index.ensures c.requires
