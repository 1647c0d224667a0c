use Rattle.std.proofs.Common.{◌≤◌, length, arith, subst}
use Rattle.std.proofs.lemmas.List.{drop_all}
use Rattle.std.proofs.lemmas.Result.{IfOk-weaker}
use Rattle.json_text.specs.Value.{Stands}
use Rattle.json_reader.proofs.feed.read_end.Goals as goal

pub returns-in-Through-clause-value : goal.returns-in-Through-clause-value
returns-in-Through-clause-value c =
    let rest = c.args.rest.now in
    let came = rw c.in-Through.is at c.in_ok-read.ensures.came in
    let past : length rest ≤ c.in-Through.read.next = omega (arith, came.1) in
    IfOk-weaker c.finish.result _ _ (λ value stands. subst (Stands rest value)
    (drop_all c.in-Through.read.next rest past) (stands 0 came.0)) c.finish.ensures.value
