use Rattle.std.proofs.Common.{sym, subst}
use Rattle.commands.specs.Ends.{span}
use Rattle.commands.specs.Serving.{EndsServing}
use Rattle.commands.proofs.Closing.{served-whole}
use Rattle.commands.proofs.Served.{ends-served, ends-faulty}
use Rattle.commands.proofs.running.serve_run.Goals as goal

pub returns-in-Ok-clause-served : goal.returns-in-Ok-clause-served
returns-in-Ok-clause-served g c =
    let notes = span (g.N.Sink.seen c.args.notes.now) (g.N.Sink.seen c.noted_end.new.notes) in
    subst (EndsServing c.args.service _ notes) (sym c.noted_end.ensures.status)
    (ends-served c.args.service _ notes c.in-Ok.end c.in-Ok.ensures.served c.noted_end.ensures.noted)

pub returns-in-Ok-clause-complete : goal.returns-in-Ok-clause-complete
returns-in-Ok-clause-complete g c bytes scenes left has none leads =
    served-whole c.closing_ends_a_room.ensures c.args.service _
    (span (g.N.Sink.seen c.args.notes.now) (g.N.Sink.seen c.noted_end.new.notes)) bytes scenes left has none leads
    c.noted_end.result (returns-in-Ok-clause-served g c)

pub returns-in-Err-clause-served : goal.returns-in-Err-clause-served
returns-in-Err-clause-served g c =
    let notes = span (g.N.Sink.seen c.args.notes.now) (g.N.Sink.seen c.noted.new.notes) in
    subst (EndsServing c.args.service _ notes) (sym c.noted.ensures.status)
    (ends-faulty c.args.service _ notes c.in-Err.fault c.in-Err.ensures.fault c.noted.ensures.noted)

pub returns-in-Err-clause-complete : goal.returns-in-Err-clause-complete
returns-in-Err-clause-complete g c bytes scenes left has none leads =
    served-whole c.closing_ends_a_room.ensures c.args.service _
    (span (g.N.Sink.seen c.args.notes.now) (g.N.Sink.seen c.noted.new.notes)) bytes scenes left has none leads
    c.noted.result (returns-in-Err-clause-served g c)
