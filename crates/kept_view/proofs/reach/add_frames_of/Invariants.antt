use Rattle.std.proofs.Common.{All, take}
use Rattle.kept_view.specs.inner.Reached.{AreAmong}
use Rattle.kept_view.proofs.Stepping.{HasFrame}
use Rattle.kept_view.proofs.reach.add_frames_of.Given as goal

abbrev pub invariant-loop-e : goal.invariant-loop-e
invariant-loop-e l = record {
  kept : AreAmong l.fn.ids.list.items l.ids.list.items;
  frames : All (HasFrame l.ids.list.items) (take l.e-index l.elements.items);
}
