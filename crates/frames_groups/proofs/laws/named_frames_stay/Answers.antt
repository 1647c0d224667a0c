use Rattle.frames_groups.proofs.FrameLaws.{frames_settled-named}
use Rattle.frames_groups.proofs.laws.named_frames_stay.Goals as goal

pub returns : goal.returns
returns c = frames_settled-named
