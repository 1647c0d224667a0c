use Rattle.std.proofs.Common.{◌≡◌, ℕ, ◌++◌, drop, Err, ap, subst}
use Rattle.input_texts.specs.declared.reading.Stopped.TheVariants as stopped
use Rattle.input_texts.specs.Texts.{IsStopped}
use Rattle.input_texts.specs.inner.Texts.{IsLed}
use Rattle.input_texts.proofs.Leads.{led_text, refused_there, faulty_there}
use Rattle.input_texts.proofs.reading.next_text.Goals as goal

pub returns-in-Err-Fault-clause-stopped : goal.returns-in-Err-Fault-clause-stopped
returns-in-Err-Fault-clause-stopped g c why is stream l more =
    let same : stopped.Faulty c.in-Err-Fault.fault ≡ why = cc in
    subst (IsStopped (stream ++ more) (g.R.Reader.seen c.args.reader.now)) same
    (faulty_there stream c.args.piece.now c.args.feed.now (g.R.Reader.seen c.args.reader.now) l (cc)
    c.in-Err-Fault.fault
    (c.in-Err-Fault.ensures.first c.in-Err-Fault.fault (ap Err c.in-Err-Fault.field-0-is) stream l.start l.at) more)

pub returns-in-Ok-read-clause-led : goal.returns-in-Ok-read-clause-led
returns-in-Ok-read-clause-led g c used is stream l =
    let same : c.in-Ok.fed.used ≡ used = cc in
    subst (λ (n : ℕ). IsLed stream (drop n c.args.piece.now) c.feed.new.self (g.R.Reader.seen c.read.new.self)) same
    (led_text stream c.args.piece.now c.args.feed.now (g.R.Reader.seen c.args.reader.now) l
    (drop c.in-Ok.fed.used c.args.piece.now) c.feed.new.self c.in-Some.text (g.R.Reader.seen c.read.new.self)
    (c.in-Ok.ensures.value c.in-Some.text c.in-Some.is stream l.start l.at)
    (c.in-Ok-read.ensures.read l.texts l.read) (ap (λ f. f.rest) (c.in-Ok.ensures.emptied c.in-Some.text c.in-Some.is)))

pub returns-in-Err-Fault-read-clause-stopped : goal.returns-in-Err-Fault-read-clause-stopped
returns-in-Err-Fault-read-clause-stopped g c why is stream l more =
    let fault = c.in-Err-Fault-read.fault in
    let found = c.in-Ok.ensures.value c.in-Some.text c.in-Some.is stream l.start l.at in
    let same : stopped.Refused c.in-Err-Fault-read.fault ≡ why = cc in
    subst (IsStopped (stream ++ more) (g.R.Reader.seen c.read.new.self)) same
    (refused_there stream c.args.piece.now c.args.feed.now (g.R.Reader.seen c.args.reader.now) l c.in-Some.text
    (g.R.Reader.seen c.read.new.self) fault (drop found.0 stream ++ more) more
    (found.2 more) (c.in-Err-Fault-read.ensures.refused fault (ap Err c.in-Err-Fault-read.field-0-is) l.texts l.read))
