use Rattle.std.proofs.Common.{sym, ◌∙◌}
use Rattle.std.proofs.lemmas.Bool.{false≢true}
use Rattle.effects.specs.inner.Prepared.{made_by}
use Rattle.effects.proofs.WalkingLaws.{told-none, told-same, told-other}
use Rattle.effects.proofs.walking.changed.Goals as goal

pub returns-in_default : goal.returns-in_default
returns-in_default c = told-none c.in_ok-new.field-0 c.args.e.now (made_by c.args.effect.now c.args.e.now)
    c.in_default.not-Some c.in_ok-new.ensures

pub returns-then-same_but_stamp : goal.returns-then-same_but_stamp
returns-then-same_but_stamp c =
    told-same c.in_ok-new.field-0 c.args.e.now c.in-Some.new (made_by c.args.effect.now c.args.e.now) c.in-Some.is
    c.in_ok-new.ensures (c.same_but_stamp.ensures.0 c.if-same_but_stamp.true)

pub returns : goal.returns
returns c =
    told-other c.args.effect.now c.in_ok-new.field-0 c.args.e.now c.in-Some.new c.in-Some.is c.in_ok-new.ensures
    (λ same. false≢true (sym c.if-same_but_stamp.false ∙ c.same_but_stamp.ensures.1 same))
