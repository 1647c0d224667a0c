use Rattle.std.proofs.Common.{not, ◌||◌, take}
use Rattle.links.specs.Names.{is_text}
use Rattle.kept_view.specs.inner.Reached.{AreAmong}
use Rattle.kept_view.proofs.Stepping.{LinkAmong}
use Rattle.kept_view.proofs.reach.add_linking.Given as goal

abbrev pub invariant-loop-namer : goal.invariant-loop-namer
invariant-loop-namer l = record {
  kept : AreAmong l.fn.ids.list.items l.ids.list.items;
  linking : LinkAmong (λ e. not l.texts_alone || is_text e.kind) l.board.live.now.items l.id
      (take l.namer-index l.namers) l.ids.list.items;
}
