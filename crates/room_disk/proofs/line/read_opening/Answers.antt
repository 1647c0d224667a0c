use Rattle.room_disk.proofs.Taking.{fault-alone}
use Rattle.room_disk.proofs.line.read_opening.Goals as goal

pub returns-in-Ok-clause-fault : goal.returns-in-Ok-clause-fault
returns-in-Ok-clause-fault c =
    λ fault e. fault-alone c.args.line.now c.in-Ok.value fault c.in-Ok.ensures.alone (c.scene_of.ensures.fault fault e)
