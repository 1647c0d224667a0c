-- The header is taken, or an event, or nothing.
use Rattle.std.proofs.Common.{ap, ◌∙◌}
use Rattle.session_text.specs.Taken.{is_full}
use Rattle.session_text.specs.declared.fault.TextFault.TheVariants.{Json}
use Rattle.session_text.proofs.RowsOne.{event-formed}
use Rattle.session_text.proofs.TakenTexts.{feed-few, feed-begun, feed-after, takes-header, takes-event, faulty-event}
use Rattle.session_text.proofs.taking.SessionFeed.take.Goals as goal

pub take_event-requires : goal.take_event-requires
take_event-requires c = feed-few c.self.inside.head c.self.inside.events.items c.self.inside.made c.self.invariant

pub invariant_of-self : goal.invariant_of-self
invariant_of-self c =
    let s = c.self.inside in
    feed-begun s.head c.in_ok-read_header-in-None.field-0 s.events.items s.made c.args.text.now c.in-None.is
    c.self.invariant c.in_ok-read_header-in-None.ensures.read

pub invariant_of-self-2 : goal.invariant_of-self-2
invariant_of-self-2 c =
    let s = c.self.inside in
    feed-after c.take_event.result s.head c.in-Some.head s.events.items c.take_event.new.events.items s.made
    c.take_event.new.made c.args.text.now c.in-Some.is c.self.invariant
    (ap is_full c.self.view_is ∙ c.requires) c.take_event.ensures.taken c.take_event.ensures.events
    c.take_event.ensures.made

pub returns-clause-json : goal.returns-clause-json
returns-clause-json c fault e = event-formed c.in-Some.head.replicas c.self.inside.made c.args.text.now fault
    (c.take_event.ensures.fault (Json fault) e)

pub returns-in-None-clause-taken : goal.returns-in-None-clause-taken
returns-in-None-clause-taken c =
    let s = c.self.inside in
    takes-header s.head c.in_ok-read_header-in-None.field-0 s.events.items s.made c.args.text.now c.args.self.now
    c.self.view_is c.in-None.is c.self.invariant c.in_ok-read_header-in-None.ensures.read

pub returns-clause-taken : goal.returns-clause-taken
returns-clause-taken c =
    let s = c.self.inside in
    takes-event c.take_event.result s.head c.in-Some.head s.events.items c.take_event.new.events.items s.made
    c.take_event.new.made c.args.text.now c.args.self.now c.self.view_is c.in-Some.is c.self.invariant
    c.take_event.ensures.taken

pub returns-clause-fault : goal.returns-clause-fault
returns-clause-fault c fault e =
    let s = c.self.inside in
    faulty-event s.head c.in-Some.head s.events.items s.made c.args.text.now c.args.self.now fault c.self.view_is
    c.in-Some.is c.self.invariant (c.take_event.ensures.fault fault e)
