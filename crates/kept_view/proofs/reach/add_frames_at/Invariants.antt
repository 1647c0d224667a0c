use Rattle.std.proofs.Common.{take}
use Rattle.kept_view.specs.inner.Reached.{AreAmong, HaveFrames}
use Rattle.kept_view.proofs.reach.add_frames_at.Given as goal

abbrev pub invariant-loop-id : goal.invariant-loop-id
invariant-loop-id l = record {
  kept : AreAmong l.fn.ids.list.items l.ids.list.items;
  frames : HaveFrames l.board.live.now.items (take l.id-index l.at.list.items) l.ids.list.items;
}
