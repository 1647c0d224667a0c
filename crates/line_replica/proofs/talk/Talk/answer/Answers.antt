use Rattle.std.proofs.Common.{Option, sym, ◌∙◌, subst}
use Rattle.std.proofs.lemmas.Result.{IfOk-weaker}
use Rattle.line_replica.specs.Standing.{Held, TalkStandsFor}
use Rattle.line_replica.proofs.Talking.{goes-on}
use Rattle.line_replica.proofs.talk.Talk.answer.Goals as goal

pub returns-in-Some-clause-told : goal.returns-in-Some-clause-told
returns-in-Some-clause-told c =
    IfOk-weaker c.answer.result _ _
    (λ text told old stands. goes-on c.in-Some.life c.answer.new.life c.args.line.now text told old
    (subst (λ (h : Option Held). TalkStandsFor h old) (sym c.self.view_is ∙ c.in-Some.is) stands))
    c.answer.ensures.told
