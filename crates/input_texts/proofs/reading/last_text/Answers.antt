use Rattle.std.proofs.Common.{Err, sym, ap, subst}
use Rattle.input_texts.specs.Texts.{HasFaultBehind}
use Rattle.input_texts.proofs.Leads.{ended_faulty, ended_text, ended_refused}
use Rattle.input_texts.proofs.reading.last_text.Goals as goal

pub returns-in-Err-Fault : goal.returns-in-Err-Fault
returns-in-Err-Fault g c stream l =
    subst (HasFaultBehind stream (g.R.Reader.seen c.args.reader.now)) (sym c.in-Err-Fault.fault-is)
    (ended_faulty stream c.args.feed.now (g.R.Reader.seen c.args.reader.now) l c.requires c.in-Err-Fault.fault
    (c.in-Err-Fault.ensures.first c.in-Err-Fault.fault (ap Err c.in-Err-Fault.field-0-is) stream l.start l.at))

pub returns-in-Ok-read : goal.returns-in-Ok-read
returns-in-Ok-read g c stream l =
    ended_text stream c.args.feed.now (g.R.Reader.seen c.args.reader.now) l c.in-Some.text
    (g.R.Reader.seen c.read.new.self)
    (c.in-Ok.ensures.value c.in-Some.text c.in-Some.is stream l.start l.at)
    (c.in-Ok-read.ensures.read l.texts l.read) c.in-Ok-read.ensures.enough

pub returns-in-Err-Fault-read : goal.returns-in-Err-Fault-read
returns-in-Err-Fault-read g c stream l =
    let fault = c.in-Err-Fault-read.fault in
    ended_refused stream c.args.feed.now (g.R.Reader.seen c.args.reader.now) l c.in-Some.text
    (g.R.Reader.seen c.read.new.self) fault
    (c.in-Ok.ensures.value c.in-Some.text c.in-Some.is stream l.start l.at)
    (c.in-Err-Fault-read.ensures.refused fault (ap Err c.in-Err-Fault-read.field-0-is) l.texts l.read)
