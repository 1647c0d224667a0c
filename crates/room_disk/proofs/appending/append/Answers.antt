-- What was written of a record before a failure is a first part of it.
use Rattle.json_text.proofs.CallerLemmas.{on_err}
use Rattle.room_disk.proofs.Gains.{part-first, part-last, part-whole}
use Rattle.room_disk.proofs.appending.append.Goals as goal

pub returns-in_err-write_all-clause-part : goal.returns-in_err-write_all-clause-part
returns-in_err-write_all-clause-part g c =
    on_err c.from_residual.result (part-first c.args.text.now (g.J.Sink.seen c.args.journal.now)
    (g.J.Sink.seen c.write_all.new.sink) (rw c.as_slice.ensures at c.in_err-write_all.ensures.part))

pub returns-in_err-write_all-2-clause-part : goal.returns-in_err-write_all-2-clause-part
returns-in_err-write_all-2-clause-part g c =
    on_err c.from_residual-in_err-write_all-2.result
    (part-last c.args.text.now (g.J.Sink.seen c.args.journal.now) (g.J.Sink.seen c.write_all.new.sink)
    (g.J.Sink.seen c.write_all-2.new.sink)
    (rw c.as_slice.ensures at c.in_ok-write_all.ensures.ok) c.in_err-write_all-2.ensures.part)

pub returns-clause-part : goal.returns-clause-part
returns-clause-part g c =
    on_err c.sync.result (part-whole c.args.text.now (g.J.Sink.seen c.args.journal.now)
    (g.J.Sink.seen c.write_all.new.sink) (g.J.Sink.seen c.write_all-2.new.sink) (g.J.Sink.seen c.sync.new.self)
    (rw c.as_slice.ensures at c.in_ok-write_all.ensures.ok) c.in_ok-write_all-2.ensures.ok c.sync.ensures.held)
