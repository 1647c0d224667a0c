use Rattle.std.proofs.Common.{◌+◌, ap}
use Rattle.std.proofs.lemmas.Result.{err_from_is_err_and}
use Rattle.elem_read.proofs.CallerLemmas.{stop-same}
use Rattle.session_text.specs.Events.{EventText}
use Rattle.session_text.proofs.Readings.{told}
use Rattle.session_text.proofs.taking.take_event.Goals as goal

pub returns-in_err-event-clause-fault : goal.returns-in_err-event-clause-fault
returns-in_err-event-clause-fault c =
    let p = err_from_is_err_and c.from_residual.result c.from_residual.ensures.1 in
    rw (p.1, p.2) (λ fault e. told (EventText c.args.replicas c.args.made.now c.args.text.now) _ fault
    c.in_err-event.ensures (stop-same _ _ _ e))

pub returns-clause-taken : goal.returns-clause-taken
returns-clause-taken c = (
  c.in_ok-event.event,
  c.in_ok-event.ensures.read,
  c.in_ok-push.ensures.items,
  ap (λ n. c.args.made.now + n) c.messages_of-messages.ensures,
)
