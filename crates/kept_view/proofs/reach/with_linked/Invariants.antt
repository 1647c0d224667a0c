use Rattle.std.proofs.Common.{take}
use Rattle.kept_view.specs.inner.Reached.{HaveLinked}
use Rattle.kept_view.proofs.reach.with_linked.Given as goal

abbrev pub invariant-loop-id : goal.invariant-loop-id
invariant-loop-id l =
    HaveLinked l.board.live.now.items (take l.id-index l.from.list.items) l.from.list.items l.to.list.items
