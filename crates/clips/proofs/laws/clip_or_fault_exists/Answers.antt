use Rattle.clips.proofs.Existing.{clip-or-fault}
use Rattle.clips.proofs.laws.clip_or_fault_exists.Goals as goal

pub returns : goal.returns
returns c = clip-or-fault
