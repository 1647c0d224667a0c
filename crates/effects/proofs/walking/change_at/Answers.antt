use Rattle.std.proofs.Common.{sym, ap, ◌∙◌}
use Rattle.std.specs.Option.{option_copied}
use Rattle.effects.specs.inner.Prepared.{made_by}
use Rattle.effects.proofs.WalkingLaws.{full-at}
use Rattle.effects.proofs.walking.change_at.Goals as goal

pub returns-in-Some-clause-full : goal.returns-in-Some-clause-full
returns-in-Some-clause-full c =
    full-at c.change_of.result c.args.store.now.elements (made_by c.args.effect.now) c.args.id.now c.in-Some.e.now
    (sym c.get.ensures.element ∙ ap option_copied c.in-Some.is) c.change_of.ensures.full
