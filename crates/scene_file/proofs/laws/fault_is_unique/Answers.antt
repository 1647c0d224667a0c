use Rattle.scene_file.proofs.Once.{fault-once, fault-none}
use Rattle.scene_file.proofs.laws.fault_is_unique.Goals as goal

pub returns-clause-once : goal.returns-clause-once
returns-clause-once c = fault-once

pub returns-clause-none : goal.returns-clause-none
returns-clause-none c = λ bytes at fault scene rest. fault-none bytes at fault {scene = scene} {rest = rest}
