use Rattle.std.proofs.Common.{take}
use Rattle.kept_view.specs.inner.Following.{ArePicked}
use Rattle.kept_view.proofs.following.picked.Given as goal

abbrev pub invariant-loop-id : goal.invariant-loop-id
invariant-loop-id l = ArePicked l.store.elements (take l.id-index l.ids) l.news.elements
