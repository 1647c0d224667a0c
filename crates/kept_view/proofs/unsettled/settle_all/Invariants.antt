use Rattle.kept_view.specs.inner.Unsettled.{AreNoted}
use Rattle.kept_view.proofs.unsettled.settle_all.Given as goal

abbrev pub invariant-loop-id : goal.invariant-loop-id
invariant-loop-id l = AreNoted l.initial.unsettled l.live.items l.shown.items
    → AreNoted l.unsettled l.live.items l.shown.items
