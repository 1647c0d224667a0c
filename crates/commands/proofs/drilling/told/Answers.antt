use Rattle.std.proofs.Common.{ap, ◌∙◌}
use Rattle.std.proofs.lemmas.Result.{IfOk-weaker}
use Rattle.session.specs.Worlds.{last_world}
use Rattle.commands.specs.Drills.{summary_text}
use Rattle.commands.proofs.Drills.{report-summed}
use Rattle.commands.proofs.drilling.told.Goals as goal

pub returns : goal.returns
returns c =
    let session = c.in_ok-session.session in
    let report = c.in_ok-report.report in
    IfOk-weaker c.summary.result _ _ (λ text made. record {
      session = session;
      read = c.in_ok-session.ensures.read;
      clashes = report.clashes;
      counted = c.in_ok-report.ensures.clashes;
      told = made
          ∙ ap (summary_text c.args.drill) (report-summed session (last_world session) report c.in_ok-report.ensures);
    }) c.summary.ensures
