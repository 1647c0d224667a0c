use Rattle.std.proofs.Common.{Err, ap, subst, ◌∙◌}
use Rattle.room_msg.specs.Messages.{IsReadAs}
use Rattle.room_core.proofs.Steps.{planned-fault, relay-planned}
use Rattle.room_core.proofs.planning.plan_hear.Goals as goal

pub returns-in-Ok : goal.returns-in-Ok
returns-in-Ok c =
    relay-planned c.args.joined.now.items c.args.sender c.args.bytes.now c.in-Ok.message c.plan_relay.result c.requires
    (rw c.as_slice.ensures at c.in-Ok.ensures.message)
    c.plan_relay.ensures.told c.plan_relay.ensures.change c.plan_relay.ensures.kept

pub returns-in_ok-invalid_text-in-Err-Fault : goal.returns-in_ok-invalid_text-in-Err-Fault
returns-in_ok-invalid_text-in-Err-Fault c = λ elements.
    planned-fault (record { elements = elements; joined = c.args.joined.now.items }) c.args.sender c.args.bytes.now
    c.in-Err-Fault.fault _ _ c.requires
    (subst (λ bytes. IsReadAs bytes (Err c.in-Err-Fault.fault)) c.as_slice.ensures
    (c.in-Err-Fault.ensures.fault c.in-Err-Fault.fault (ap Err c.in-Err-Fault.field-0-is)))
    c.in_ok-one_link-in-Err-Fault.ensures (c.new.ensures ∙ c.in_ok-invalid_text-in-Err-Fault.ensures)
