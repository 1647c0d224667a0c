use Rattle.std.proofs.lemmas.Option.{MatchOption-at_some}
use Rattle.std.proofs.lemmas.Result.{IfOk-weaker}
use Rattle.json_text.specs.Members.{pairs}
use Rattle.library.proofs.ItemOnce.{members-fault}
use Rattle.library.proofs.reading.read_item.Goals as goal

pub returns-clause-read : goal.returns-clause-read
returns-clause-read c =
    let value = c.args.value.now in
    let members = pairs c.in-Some.found in
    let object = MatchOption-at_some _ _ c.in-Some.found c.in-Some.is c.in_ok-found.ensures in
    IfOk-weaker c.read_members.result _ _ (λ item says. record { members = members; object = object; says = says })
    c.read_members.ensures.read

pub returns-clause-fault : goal.returns-clause-fault
returns-clause-fault c = λ fault e.
    let value = c.args.value.now in
    let members = pairs c.in-Some.found in
    let object = MatchOption-at_some _ _ c.in-Some.found c.in-Some.is c.in_ok-found.ensures in
    members-fault value members fault object (c.read_members.ensures.fault fault e)
