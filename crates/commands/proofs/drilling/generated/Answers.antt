use Rattle.std.proofs.Common.{◌≡◌, Err, ap, subst, ◌∙◌}
use Rattle.session_text.specs.Sessions.{IsSessionFault}
use Rattle.workload.specs.Drills.{drill_session}
use Rattle.workload.specs.Texts.{drill_text}
use Rattle.commands.proofs.drilling.generated.Goals as goal

pub unreachable-requires : goal.unreachable-requires
unreachable-requires c =
    let seed = c.args.drill.seed in
    let events = c.args.drill.events in
    let found = c.in-Err-Fault.field-0-0 in
    let same : c.as_slice.result.now ≡ drill_text seed events = c.as_slice.ensures ∙ c.in_ok-text.ensures in
    c.reading_is_unique.ensures.faultless (drill_text seed events) (drill_session seed events) found
    (c.drill_is_read.ensures.read seed events c.requires.seed c.requires.most)
    (subst (λ bytes. IsSessionFault bytes found) same (c.read_session.ensures.fault found (c.in-Err-Fault.is
    ∙ ap Err c.in-Err-Fault.field-0-is)))
