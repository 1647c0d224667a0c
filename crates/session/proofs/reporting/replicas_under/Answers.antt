use Rattle.std.proofs.Common.{[], ◌∷◌, ◌++◌, sym, subst}
use Rattle.session.specs.Reports.{AreReplicaReports, IsReplicaReport}
use Rattle.session.specs.inner.Standing.{SeatStandsFor}
use Rattle.session.proofs.WorldLaws.{zip-push, zip-split}
use Rattle.session.proofs.reporting.replicas_under.Goals as goal

pub loop-seat-preserved : goal.loop-seat-preserved
loop-seat-preserved c = λ ss stands.
    let head = c.args.head.now in
    let parts = zip-split SeatStandsFor c.loop-seat.yielded c.in-Some.seat ss stands in
    subst (AreReplicaReports head ss) (sym c.in_ok-push.ensures.items)
    (subst (λ zs. AreReplicaReports head zs (c.loop-seat.reports.items ++ c.in_ok-replica_of.field-0 ∷ []))
    (sym parts.is)
    (zip-push (IsReplicaReport head) parts.front c.loop-seat.reports.items parts.last c.in_ok-replica_of.field-0
    (c.loop-seat.invariant parts.front parts.all)
    (c.in_ok-replica_of.ensures parts.last parts.own)))
