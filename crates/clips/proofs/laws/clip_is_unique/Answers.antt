use Rattle.clips.proofs.ClipOnce.{clip-once, fault-once, clip-faultless}
use Rattle.clips.proofs.laws.clip_is_unique.Goals as goal

pub returns-clause-once : goal.returns-clause-once
returns-clause-once c = clip-once

pub returns-clause-fault : goal.returns-clause-fault
returns-clause-fault c = fault-once

pub returns-clause-none : goal.returns-clause-none
returns-clause-none c = λ text clip fault is. clip-faultless text clip is fault
