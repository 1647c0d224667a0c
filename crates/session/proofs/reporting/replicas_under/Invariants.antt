-- The first replicas are reported.
use Rattle.std.proofs.Common.{List}
use Rattle.session.specs.Reports.{AreReplicaReports}
use Rattle.session.specs.inner.Standing.{SeatsStandFor}
use Rattle.session.specs.Worlds.{Seat}
use Rattle.session.proofs.reporting.replicas_under.Given as goal

abbrev pub invariant-loop-seat : goal.invariant-loop-seat
invariant-loop-seat l = (ss : List Seat) → SeatsStandFor l.yielded ss → AreReplicaReports l.head ss l.reports.items
