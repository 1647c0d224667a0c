use Rattle.std.proofs.Common.{All, take}
use Rattle.kept_view.specs.inner.Reached.{AreAmong, StaysKind}
use Rattle.kept_view.proofs.reach.add_namers.Given as goal

abbrev pub invariant-loop-e : goal.invariant-loop-e
invariant-loop-e l = record {
  kept : AreAmong l.fn.ids.list.items l.ids.list.items;
  namers : All (StaysKind l.board.live.now.items l.ids.list.items) (take l.e-index l.elements.items);
}
