use Rattle.std.proofs.lemmas.Option.{MatchOption-at_some}
use Rattle.std.proofs.lemmas.Result.{IfOk-weaker}
use Rattle.json_text.specs.Members.{pairs}
use Rattle.checks.proofs.JudgedLaws.{values-found}
use Rattle.checks.proofs.judging.values_in.Goals as goal

pub returns-in-Some : goal.returns-in-Some
returns-in-Some c =
    let object = MatchOption-at_some _ _ c.in-Some.members c.in-Some.is c.in_ok-members.ensures in
    IfOk-weaker c.items_given.result _ _
    (λ found has. values-found c.args.text.now (pairs c.in-Some.members) found object has) c.items_given.ensures
