use Rattle.std.proofs.Common.{take}
use Rattle.kept_view.proofs.UnsettledLaws.{AreWalked}
use Rattle.kept_view.proofs.unsettled.unsettled_of.Given as goal

abbrev pub invariant-loop-e : goal.invariant-loop-e
invariant-loop-e l = AreWalked l.live.items l.unsettled (take l.e-index l.shown.items)
