use Rattle.std.proofs.Common.{take}
use Rattle.frames_groups.proofs.FrameIds.{HasFrames}
use Rattle.frames_groups.proofs.frames.frames_of.Given as goal

abbrev pub invariant-loop-e : goal.invariant-loop-e
invariant-loop-e l = HasFrames l.frames (take l.e-index l.elements.items)
