use Rattle.std.proofs.lemmas.Result.{IfOk-weaker}
use Rattle.session.proofs.CallerLemmas.{report-is_text}
use Rattle.commands.proofs.answer.replayed_text.Goals as goal

pub returns : goal.returns
returns c =
    let session = c.args.session.now in
    let text = c.in_ok-report_text.field-0 in
    IfOk-weaker c.ended.result _ _
    (λ made ended. (
      text,
      report-is_text session c.in_ok-report.report text c.in_ok-report.ensures
          c.in_ok-report_text.ensures,
      ended,
    )) c.ended.ensures
