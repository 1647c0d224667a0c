use Rattle.std.proofs.Common.{◌≡◌, ◌+◌, Err, ap, subst, sym, ◌∙◌, drop}
use Rattle.scene_file.proofs.CallerLemmas.{Stands-behind}
use Rattle.session_text.specs.Sessions.{IsSessionFault}
use Rattle.session_text.specs.declared.fault.SessionFault.{SessionFault}
use Rattle.session_text.specs.declared.fault.SessionFault.TheVariants.{In}
use Rattle.session_text.specs.declared.fault.TextFault.TheVariants.{Json}
use Rattle.session_text.proofs.Behind.{leads-next, next-missing, next-refused}
use Rattle.session_text.proofs.reading.next_text.Goals as goal

pub returns-in-Err-Fault-clause-fault : goal.returns-in-Err-Fault-clause-fault
returns-in-Err-Fault-clause-fault c fault e =
    let found : SessionFault = In (c.texts-number.result + 1) (Json c.in-Err-Fault.fault) in
    let same : found ≡ fault = cc in
    subst (IsSessionFault c.args.bytes.now)
    (ap (λ n. In (n + 1) (Json c.in-Err-Fault.fault)) (sym c.texts-number.ensures) ∙ same)
    (next-missing c.args.bytes.now c.args.feed.now c.args.at c.in-Err-Fault.fault c.requires.leads c.requires.more
    c.requires.room
    (c.in-Err-Fault.ensures.fault c.in-Err-Fault.fault (ap Err c.in-Err-Fault.field-0-is)))

pub returns-in-Ok-take-clause-within : goal.returns-in-Ok-take-clause-within
returns-in-Ok-take-clause-within c =
    let end = c.in-Ok.ensures.within.1 in
    (Stands-behind c.args.bytes.now c.in-Ok.found.0 c.args.at c.in-Ok.found.1 end c.in-Ok.ensures.found, end)

pub returns-in-Ok-take-clause-leads : goal.returns-in-Ok-take-clause-leads
returns-in-Ok-take-clause-leads c =
    leads-next c.args.bytes.now c.in-Ok.found.0 c.args.feed.now c.take.new.self c.args.at c.in-Ok.found.1
    c.requires.leads c.requires.room
    c.in-Ok.ensures.found c.in-Ok.ensures.within.1 c.in-Ok-take.ensures.taken

pub returns-in-Err-Fault-take-clause-fault : goal.returns-in-Err-Fault-take-clause-fault
returns-in-Err-Fault-take-clause-fault c fault e =
    let found : SessionFault = In (c.texts-number.result + 1) c.in-Err-Fault-take.fault in
    let same : found ≡ fault = cc in
    subst (IsSessionFault c.args.bytes.now) (ap (λ n. In (n + 1) c.in-Err-Fault-take.fault) (sym c.texts-number.ensures)
    ∙ same)
    (next-refused c.args.bytes.now c.in-Ok.found.0 (drop c.in-Ok.found.1 c.args.bytes.now) c.args.feed.now c.args.at
    c.in-Err-Fault-take.fault c.requires.leads c.requires.more c.requires.room
    c.in-Ok.ensures.found (c.in-Err-Fault-take.ensures.fault c.in-Err-Fault-take.fault
    (ap Err c.in-Err-Fault-take.field-0-is)))
