use Rattle.frames_groups.proofs.FrameLaws.{framed-among}
use Rattle.frames_groups.proofs.laws.named_frames_are_enough.Goals as goal

pub returns : goal.returns
returns c = framed-among
