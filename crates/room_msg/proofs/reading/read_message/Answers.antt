use Rattle.room_msg.proofs.Told.{fault-alone}
use Rattle.room_msg.proofs.reading.read_message.Goals as goal

pub returns-clause-fault : goal.returns-clause-fault
returns-clause-fault c = λ fault e. fault-alone c.args.bytes.now c.in_ok-value.value fault c.in_ok-value.ensures.alone
    (c.message_of.ensures.fault fault e)
